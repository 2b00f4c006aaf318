-- What a reader's tests say of its answer, over plain variables: one law for each way out.
use Prim.Native.Nat.{ℕ, suc, ◌+◌, ◌-◌, ◌*◌, ◌≤◌, ◌<◌, ◌^◌}
use mathlib.Core.Path.{◌≡◌, refl, sym, ap, ◌∙◌}
use mathlib.Core.Bool.{Bool, true, false, cond, not}
use mathlib.Core.List.{List, [], ◌∷◌}
use native.Mathlib.Omega.{arith}
use native.Mathlib.Nat.{le_of_eq, le_refl, lt_of_lt_of_le}
use lib.ListN.{length, get_or, take, drop, length-drop, drop_of_length-le}
use lib.Dec.{eqb}
use lib.Seq.{take_all}
use borrow.Author.Tests.{le-leb, ne_eqb}
use Rattle.std.specs.Prelude.{Option, Some, None, position}
use Rattle.std.specs.List.{position_or_len}
use Rattle.std.proofs.lemmas.Bool.{ltb-false, not-true}
use Rattle.std.proofs.lemmas.Option.{cond_some, none-some}
use Rattle.std.proofs.lemmas.List.Quantifiers.{position-Some}
use Rattle.run.proofs.Scan.{at_next}
use Rattle.field.specs.Byte.{other_than_space}
use Rattle.field.specs.Number.{within, number, lone_zero, spaced, digits_after}
use Rattle.field.proofs.Laws.{Halves, pow10_mono, spaced_write, digits_write}

pub in_bounds : (least most v : ℕ) (n : Option ℕ) → n ≡ Some v → least ≤ v → v ≤ most → Some v ≡ within least most n
in_bounds least most v n e h k = rw (e, le-leb least v h, le-leb v most k)

-- a bound that the width implies is no bound
pub width_bounds : (s : List ℕ) (most : ℕ) → 10 ^ length s ≤ most + 1 → number 0 most s ≡ spaced s
width_bounds s most h = go (spaced s) refl
  where
    go : (n : Option ℕ) → spaced s ≡ n → within 0 most n ≡ n
    go (Some v) e = sym (in_bounds 0 most v (Some v) refl (omega arith) (omega (arith, (spaced_write s v e).1)))
    go None e = refl

-- one more stays below the cap of nineteen
pub below_cap : (i v : ℕ) → Halves i v → i < 19 → 9 * v ≤ 15 * 10 ^ 18
below_cap i v h k = let e : 10 ^ i ≤ 10 ^ 18 = pow10_mono i 18 (omega arith) in omega arith

-- ---- a number behind its fill

-- what is passed over is spaces, and what stands behind them says the number
spaced_from : (s : List ℕ) → spaced s ≡ spaced (drop (position_or_len other_than_space s) s)
spaced_from [] = refl
spaced_from (b ∷ s) = go (eqb b 32) refl (spaced_from s)
  where
    n : ℕ
    n = position_or_len other_than_space s

    go : (t : Bool) → eqb b 32 ≡ t → spaced s ≡ spaced (drop n s)
        → cond t (spaced s) (cond (eqb b 48) (lone_zero s) (digits_after 0 (b ∷ s))) ≡ spaced (drop (cond (not (not t)) (1 + n) 0) (b ∷ s))
    go true e h = let one : 1 + n ≡ suc n = omega arith in rw one h
    go false e h = rw e

cond_none : {A : Type 0} (t : Bool) (x : A) → cond t (Some x) None ≡ None → t ≡ false
cond_none true x e = absurd (none-some x (sym e))
cond_none false x e = refl

pub spaces_only : (s : List ℕ) → position other_than_space s ≡ None → spaced s ≡ None
spaces_only s e =
    spaced_from s ∙ ap spaced (drop_of_length-le s (ltb-false _ _ (cond_none _ _ e)))

-- from its first byte on that is no space
pub spaced_at : (s : List ℕ) (at : ℕ) → position other_than_space s ≡ Some at
    → spaced s ≡ cond (eqb (get_or s at 0) 48) (lone_zero (drop (at + 1) s)) (digits_after 0 (drop at s))
spaced_at s at e =
    let found = position-Some other_than_space s at 0 e in
    let here : position_or_len other_than_space s ≡ at = (cond_some _ _ _ e).1 in
    rw here at (spaced_from s) ∙ rw (at_next s at found.0, not-true _ found.1)

-- one way out for each kind of first byte
module _ (s : List ℕ) (at : ℕ) (e : position other_than_space s ≡ Some at) where
  pub zero_alone : get_or s at 0 ≡ 48 → at + 1 ≡ length s → Some 0 ≡ spaced s
  zero_alone z k = rw (spaced_at s at e, z, drop_of_length-le s (le_of_eq (sym k)))

  pub led_by_zero : at < length s → get_or s at 0 ≡ 48 → (at + 1 ≡ length s → ⊥) → None ≡ spaced s
  led_by_zero h z k = let m : at + 1 < length s = omega arith in rw (spaced_at s at e, z, at_next s (at + 1) m)

  pub led_by_digit : (get_or s at 0 ≡ 48 → ⊥) → digits_after 0 (take (length s - at) (drop at s)) ≡ spaced s
  led_by_digit z =
      let m : length (drop at s) ≤ length s - at = rw length-drop (le_refl _) in
      rw (spaced_at s at e, ne_eqb (get_or s at 0) 48 z, take_all (length s - at) (drop at s) m)

-- ---- how much a field of n bytes at the most can say

pub spaced_below : (s : List ℕ) (v n : ℕ) → length s ≤ n → spaced s ≡ Some v → v < 10 ^ n
spaced_below s v n h e = lt_of_lt_of_le (spaced_write s v e).1 (pow10_mono (length s) n h)

pub digits_below : (s : List ℕ) (v n : ℕ) → length s ≤ n → digits_after 0 s ≡ Some v → v < 10 ^ n
digits_below s v n h e = lt_of_lt_of_le (digits_write s v e).1 (pow10_mono (length s) n h)
