-- What a loop of stores keeps: what is stored, and what is left to store, give the same end.
use Prim.Native.Nat.{ℕ, zero, suc, ◌+◌, ◌-◌, ◌/◌, ◌%◌, ◌<◌, ◌≤◌}
use mathlib.Core.Path.{◌≡◌, refl, ◌∙◌}
use mathlib.Core.Bool.{cond}
use mathlib.Core.List.{List}
use native.Mathlib.Omega.{arith}
use lib.Dec.{eqb}
use lib.ListN.{set}
use lib.Seq.{sets}
use Rattle.field.specs.Number.{rest, filled, price_text}
use Rattle.run.proofs.Stores.{sets_last, sets_append}
use Rattle.field.proofs.Laws.{length_rest, length_filled}

-- the byte left of what is written is stored, and w - 1 are left
pub rest_next : (l : List ℕ) (at fill w v b : ℕ) → 0 < w → b ≡ cond (eqb v 0) fill (48 + v % 10) → sets (set l (at + (w - 1)) b) at (rest fill (w - 1) (v / 10)) ≡ sets l at (rest fill w v)
rest_next l at fill zero v b h q = absurd (omega arith)
rest_next l at fill (suc w) v b h q =
    let e : suc w - 1 ≡ w = omega arith in
    rw (e, q) (sets_last l at (rest fill w (v / 10)) _ w (length_rest fill w (v / 10)))

-- the last digit is stored first
pub filled_first : (l : List ℕ) (at fill w v : ℕ) → (w ≡ 0 → ⊥) → sets (set l (at + (w - 1)) (48 + v % 10)) at (rest fill (w - 1) (v / 10)) ≡ sets l at (filled fill w v)
filled_first l at fill zero v h = absurd (h refl)
filled_first l at fill (suc w) v h =
    let e : suc w - 1 ≡ w = omega arith in
    rw e (sets_last l at (rest fill w (v / 10)) _ w (length_rest fill w (v / 10)))

pub rest_end : (l : List ℕ) (at fill w v : ℕ) → w ≤ 0 → l ≡ sets l at (rest fill w v)
rest_end l at fill zero v h = refl
rest_end l at fill (suc w) v h = absurd (omega arith)

-- the whole part, then the four digits behind it
pub price_stores : (l l₁ l₂ : List ℕ) (at w v : ℕ) → l₁ ≡ sets l at (filled 32 (w - 4) (v / 10000)) → l₂ ≡ sets l₁ (at + (w - 4)) (filled 48 4 (v % 10000)) → l₂ ≡ sets l at (price_text w v)
price_stores l l₁ l₂ at w v e k = k ∙ rw e (sets_append l at (w - 4) (filled 32 (w - 4) (v / 10000)) (filled 48 4 (v % 10000)) (length_filled 32 (w - 4) (v / 10000)))
