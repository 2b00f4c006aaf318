-- The younger order of each order, noted in one pass over their elders.
use Rattle.std.specs.Prelude.{ℕ, ◌+◌, ◌≤◌, ◌<◌, ◌≡◌, cond, List, Option, Some, None, eqb, drop, get_or, length}
use Rattle.run.specs.Found.{or_else}
use Rattle.slot.specs.Places.{slot_at}
use Rattle.sheet.specs.Walk.{elders_in, found_before, seek}

-- the younger order of the one at place i
abbrev pub younger_order : List ℕ → ℕ → Option ℕ
younger_order es i = found_before (length es) (seek (i + 1) (i + 1) (drop (i + 1) es))

-- as it is noted, or 0: the first order is nobody's younger one
abbrev pub as_noted : Option ℕ → ℕ
as_noted None = 0
as_noted (Some y) = y

abbrev pub younger_of : List ℕ → ℕ → ℕ
younger_of es i = as_noted (younger_order es i)

-- n orders are inside the table, and that of each is noted
pub record Kin (n : ℕ) (s kin : List ℕ) : Type 0 where
  pub slots : slot_at n ≤ length s
  pub long : n ≤ length kin
  pub each : (i : ℕ) → i < n → get_or kin i 0 ≡ younger_of (elders_in n s) i

-- one order more, at place i, whose elder is e: it is noted for its elder, unless one is noted there
pub record Notes (i e : ℕ) (before after : List ℕ) : Type 0 where
  pub long : length after ≡ length before
  pub own : get_or after i 0 ≡ 0
  pub others : (j : ℕ) → j < i → get_or after j 0 ≡ or_else (get_or before j 0) (cond (eqb e (j + 1)) i 0)
