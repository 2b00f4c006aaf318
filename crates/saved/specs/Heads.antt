-- 02, 2: "Key, id, side and series stand as their line bytes": the runs at the head of a saved order or quote row, one behind another.
use Rattle.std.specs.Prelude.{ℕ, ◌+◌, ◌-◌, cond, List, [], ◌∷◌, ◌++◌, ltb, length, get_or, take, drop, replicate, Option, Some, None}
use Rattle.message.specs.Fields.{field_no}
use Rattle.message.specs.Rule.{Value, num, run, reads, writes}
use Rattle.message.specs.Values.{one, num_of}
use Rattle.layout.specs.Layout.{layout, strike_under}
use Rattle.order.specs.declared.Series.{Series}
use Rattle.quote.specs.declared.Quote.{Quote}
use Rattle.groups.specs.Taken.{Taken, none, taken, behind, joined}

-- ---- writing

-- what field n of a line has for a value; the strike is written alike under any denominator
abbrev pub in_line : ℕ → Value → List ℕ
in_line n v = writes (field_no n (layout 65 65)).rule (field_no n (layout 65 65)).len v

-- fields 16 to 21
abbrev pub series_runs : Series → List (List ℕ)
series_runs s =
    in_line 16 (run s.root)
    ∷ in_line 17 (one s.month)
    ∷ in_line 18 (num s.date)
    ∷ in_line 19 (num s.year)
    ∷ in_line 20 (one s.denominator)
    ∷ in_line 21 (num s.strike)
    ∷ []

-- of the token the first w characters: 20 of an order's key, 16 of a quote's id
abbrev pub head_runs : ℕ → Quote → List (List ℕ)
head_runs w q =
    in_line 10 (run q.key.source) ∷ take w (in_line 11 (run q.key.token)) ∷ in_line 14 (one q.side) ∷ series_runs q.series

abbrev pub head_bytes : ℕ → Quote → List ℕ
head_bytes w q = joined (λ (b : List ℕ). b) (head_runs w q)

-- ---- reading

-- bytes cut into runs of these widths
abbrev pub cut : List ℕ → List ℕ → List (List ℕ)
cut [] s = []
cut (n ∷ ns) s = take n s ∷ cut ns (drop n s)

-- those of the runs above
abbrev pub series_widths : List ℕ
series_widths = 6 ∷ 1 ∷ 2 ∷ 2 ∷ 1 ∷ 6 ∷ []

abbrev pub head_widths : ℕ → List ℕ
head_widths w = 6 ∷ w ∷ 1 ∷ series_widths

abbrev pub head_width : ℕ → ℕ
head_width w = 25 + w

abbrev pub run_no : List (List ℕ) → ℕ → List ℕ
run_no runs i = get_or runs i []

-- the byte of a run of one
abbrev pub byte_no : List (List ℕ) → ℕ → ℕ
byte_no runs i = get_or (run_no runs i) 0 0

abbrev pub on_number : {A : Type 0} → Option Value → (ℕ → Taken A) → Taken A
on_number (Some v) next = next (num_of v)
on_number None next = none

-- fields 18, 19 and 21 by their rules. Whether the others keep theirs is asked of the order or row that is read
abbrev pub series_from : List (List ℕ) → Taken Series
series_from runs =
    on_number (reads (field_no 18 (layout 65 65)).rule (run_no runs 2)) (λ date.
    on_number (reads (field_no 19 (layout 65 65)).rule (run_no runs 3)) (λ year.
    on_number (reads (strike_under (byte_no runs 4)) (run_no runs 5)) (λ strike.
    taken (record { root = run_no runs 0; month = byte_no runs 1; date = date; year = year; denominator = byte_no runs 4; strike = strike }) 18)))

-- an id is padded with spaces
abbrev pub quote_from : ℕ → List (List ℕ) → Series → Quote
quote_from w runs series =
    record {
      key = record { source = run_no runs 0; token = run_no runs 1 ++ replicate (20 - w) 32 };
      side = byte_no runs 2;
      series = series;
    }

abbrev pub head_from : ℕ → List (List ℕ) → Taken Quote
head_from w runs = behind (series_from (drop 3 runs)) (λ series n. taken (quote_from w runs series) (head_width w))

abbrev pub head_in : ℕ → List ℕ → Taken Quote
head_in w s = cond (ltb (length s) (head_width w)) none (head_from w (cut (head_widths w) s))
