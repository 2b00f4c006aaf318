-- The runs at the end of a head, as they are written: a series, and its last four fields.
use Rattle.std.specs.Prelude.{ℕ, List, [], ◌∷◌}
use Rattle.message.specs.Rule.{num}
use Rattle.message.specs.Values.{one}
use Rattle.order.specs.declared.Series.{Series}
use Rattle.groups.specs.Taken.{joined}
use Rattle.saved.specs.Heads.{in_line, series_runs}

-- fields 18 to 21
abbrev pub strike_runs : Series → List (List ℕ)
strike_runs s = in_line 18 (num s.date) ∷ in_line 19 (num s.year) ∷ in_line 20 (one s.denominator) ∷ in_line 21 (num s.strike) ∷ []

abbrev pub strike_bytes : Series → List ℕ
strike_bytes s = joined (λ (b : List ℕ). b) (strike_runs s)

-- fields 16 to 21
abbrev pub series_bytes : Series → List ℕ
series_bytes s = joined (λ (b : List ℕ). b) (series_runs s)
