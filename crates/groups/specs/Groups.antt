-- 02, 2: "variable-length groups of seven bits, low group first, the top bit set on all but the last, and always the fewest groups".
use Rattle.std.specs.Prelude.{ℕ, zero, suc, ◌+◌, ◌-◌, ◌*◌, ◌/◌, ◌%◌, ◌^◌, ◌≡◌, Bool, cond, Option, Some, None, List, [], ◌∷◌, ltb, eqb, length, drop}
use Rattle.std.proofs.lemmas.List.Edits.{sets}
use Rattle.groups.specs.Taken.{Taken, none, taken, list_in}

-- the most groups of a number that 64 bits hold
abbrev pub most_groups : ℕ
most_groups = 10

abbrev pub in64 : ℕ → Bool
in64 v = ltb v (2 ^ 64)

-- ---- writing

-- in at most k groups
abbrev pub groups_of : ℕ → ℕ → List ℕ
groups_of zero v = []
groups_of (suc k) v = cond (ltb v 128) (v ∷ []) ((128 + v % 128) ∷ groups_of k (v / 128))

abbrev pub number_bytes : ℕ → List ℕ
number_bytes v = groups_of most_groups v

-- ---- reading

-- a low group, and what the groups behind it say; where they say 0, fewer groups would do
abbrev pub above : ℕ → Taken ℕ → Taken ℕ
above g none = none
above g (taken v w) = cond (eqb v 0) none (taken (g + 128 * v) (1 + w))

abbrev pub groups_in : ℕ → List ℕ → Taken ℕ
groups_in zero s = none
groups_in (suc k) [] = none
groups_in (suc k) (b ∷ s) = cond (ltb b 128) (taken b 1) (above (b - 128) (groups_in k s))

abbrev pub if_in64 : Taken ℕ → Taken ℕ
if_in64 none = none
if_in64 (taken v w) = cond (in64 v) (taken v w) none

abbrev pub number_in : List ℕ → Taken ℕ
number_in s = if_in64 (groups_in most_groups s)

-- ---- what the functions answer, by what stands at a place

-- what is taken there, and the place behind it
abbrev pub taken_at : {A : Type 0} → ℕ → Taken A → Option (A × ℕ)
taken_at at none = None
taken_at at (taken a w) = Some (a, at + w)

-- the place behind what is taken there
abbrev pub end_at : {A : Type 0} → ℕ → Taken A → Option ℕ
end_at at none = None
end_at at (taken a w) = Some (at + w)

-- as many numbers as are lent, read one behind another from a place on
pub record ReadsAll (s : List ℕ) (at : ℕ) (before : List ℕ) (r : Option ℕ) (after : List ℕ) : Type 0 where
  pub said : r ≡ end_at at (list_in number_in (length before) (drop at s))
  pub room : length after ≡ length before
  pub values : (vs : List ℕ) (w : ℕ) → list_in number_in (length before) (drop at s) ≡ taken vs w → after ≡ vs

-- bytes put at a place, and the place behind them
pub record Puts (bytes : List ℕ) (at : ℕ) (before : List ℕ) (r : ℕ) (after : List ℕ) : Type 0 where
  pub stored : after ≡ sets before at bytes
  pub next : r ≡ at + length bytes
