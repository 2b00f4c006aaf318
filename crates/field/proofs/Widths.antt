-- The laws of specs/Widths.antt. What is one to one stands in proofs/Laws.antt; that a number has the fewest digits is shown here.
use Prim.Native.Nat.{ℕ, zero, suc, ◌+◌, ◌-◌, ◌*◌, ◌^◌, ◌≤◌, ◌<◌}
use native.Mathlib.Nat.{pow-suc, mul-le-mul_right}
use native.Mathlib.Omega.{arith}
use mathlib.Core.Path.{◌≡◌, refl, ap}
use mathlib.Core.Bool.{Bool, true, false, cond}
use mathlib.Core.List.{List, [], ◌∷◌, ◌++◌}
use borrow.Author.Tests.{eqb-true, eqb-false, ne_eqb}
use lib.Dec.{eqb}
use lib.ListN.{length, replicate}
use Rattle.field.specs.Byte.{is_of}
use Rattle.field.specs.Number.{digits_after, lone_zero, spaced}
use Rattle.field.specs.Widths.{Justified, Widths}
use Rattle.field.specs.declared.Class.TheVariants.{Digit}
use Rattle.field.proofs.Fill.{between, guarded}
use Rattle.field.proofs.Laws.{pow10_mono, length_filled, length_price, digits_read, digits_write, spaced_back, spaced_write, price_read, price_write}
use Rattle.std.specs.Prelude.{Some}
use Rattle.std.proofs.lemmas.Option.{none-some}

-- digits after those that said a say at least a in their place
at_least : (a : ℕ) (s : List ℕ) (v : ℕ) → digits_after a s ≡ Some v → a * 10 ^ length s ≤ v
at_least a [] v e = let z : a ≡ v = cc in omega arith
at_least a (b ∷ s) v e =
    let m = a * 10 + (b - 48) in
    let g = guarded (is_of Digit b) (digits_after m s) v e in
    let more : a * 10 * 10 ^ length s ≤ m * 10 ^ length s = mul-le-mul_right (10 ^ length s) (omega arith) in
    rw (pow-suc 10 (length s)) (omega (arith, at_least m s v g.1, more))

-- a first digit that is not 0 needs its place
needed : (b : ℕ) (s : List ℕ) (v k : ℕ) → (b ≡ 48 → ⊥) → digits_after 0 (b ∷ s) ≡ Some v → v < 10 ^ k → suc (length s) ≤ k
needed b s v k h e l =
    let g = guarded (is_of Digit b) (digits_after (0 * 10 + (b - 48)) s) v e in
    let d = between 48 57 b g.0 in
    let one : 1 * 10 ^ length s ≤ (0 * 10 + (b - 48)) * 10 ^ length s = mul-le-mul_right (10 ^ length s) (omega arith) in
    let less : ¬ (k ≤ length s) = λ c. absurd (omega (arith, pow10_mono k (length s) c, at_least (0 * 10 + (b - 48)) s v g.1, one)) in
    omega arith

justified : (s : List ℕ) (v : ℕ) → spaced s ≡ Some v → Justified s v
justified [] v e = absurd (none-some _ e)
justified (b ∷ s) v e = go (eqb b 32) (eqb b 48) refl refl (justified s v) e
  where
    lone : (r : List ℕ) → b ≡ 48 → lone_zero r ≡ Some v → Justified (b ∷ r) v
    lone [] x e = let z : 0 ≡ v = cc in record { spaces = 0; digits = b ∷ []; bytes = refl; some = omega arith; says = rw (x, ← z); fewest = λ k p l. omega arith }
    lone (c ∷ r) x e = absurd (none-some _ e)

    go : (space naught : Bool) → eqb b 32 ≡ space → eqb b 48 ≡ naught → (spaced s ≡ Some v → Justified s v)
        → cond space (spaced s) (cond naught (lone_zero s) (digits_after 0 (b ∷ s))) ≡ Some v → Justified (b ∷ s) v
    go true naught x y ih e =
        let j = ih e in
        record {
          spaces = suc j.spaces;
          digits = j.digits;
          bytes = rw (eqb-true b 32 x) (ap (λ (t : List ℕ). 32 ∷ t) j.bytes);
          some = j.some;
          says = j.says;
          fewest = j.fewest;
        }
    go false true x y ih e = lone s (eqb-true b 48 y) e
    go false false x y ih e =
        record { spaces = 0; digits = b ∷ s; bytes = refl; some = omega arith; says = e; fewest = λ k p l. needed b s v k (eqb-false b 48 y) e l }

skip_spaces : (n : ℕ) (t : List ℕ) → spaced (replicate n 32 ++ t) ≡ spaced t
skip_spaces zero t = refl
skip_spaces (suc n) t = skip_spaces n t

-- digits that are no more than v needs
fewest_read : (t : List ℕ) (v : ℕ) → 0 < length t → digits_after 0 t ≡ Some v → ((k : ℕ) → 0 < k → v < 10 ^ k → length t ≤ k) → spaced t ≡ Some v
fewest_read [] v p e f = absurd (omega arith)
fewest_read (b ∷ s) v p e f = rw (ne_eqb b 32 (λ q. absurd (omega (arith, digit)))) (go (eqb b 48) refl)
  where
    digit : 48 ≤ b
    digit = (between 48 57 b (guarded (is_of Digit b) (digits_after (0 * 10 + (b - 48)) s) v e).0).0

    lone : (r : List ℕ) → digits_after 0 r ≡ Some v → ((k : ℕ) → 0 < k → v < 10 ^ k → suc (length r) ≤ k) → lone_zero r ≡ Some v
    lone [] e f = e
    lone (c ∷ r) e f = absurd (omega (arith, f (length (c ∷ r)) (omega arith) (digits_write (c ∷ r) v e).1))

    go : (t : Bool) → eqb b 48 ≡ t → cond t (lone_zero s) (digits_after 0 (b ∷ s)) ≡ Some v
    go true x = lone s (rw (eqb-true b 48 x) at e) f
    go false x = e

pub widths : Widths
widths =
    record {
      number = λ s v. (justified s v, λ j. rw (j.bytes, skip_spaces) (fewest_read j.digits v j.some j.says j.fewest));
      numbers = record { wide = λ w v h. length_filled 32 w v; reads_back = λ w v h. spaced_back w v (omega arith); writes_back = spaced_write };
      digits = record { wide = λ w v h. length_filled 48 w v; reads_back = λ w v h. digits_read w v; writes_back = digits_write };
      prices = record { wide = λ w v h. length_price w v (omega arith); reads_back = price_read; writes_back = price_write };
    }
