-- The fields of a printable line are printable.
use Prim.Native.Nat.{ℕ, zero, suc, ◌+◌, ◌≤◌, ◌<◌}
use mathlib.Core.Path.{◌≡◌, refl}
use mathlib.Core.Bool.{true, and-eq-true_iff}
use mathlib.Core.List.{List, [], ◌∷◌}
use native.Mathlib.Omega.{arith}
use lib.ListN.{take}
use Rattle.run.specs.Runs.{part, all}
use Rattle.field.specs.Byte.{is_of}
use Rattle.field.specs.declared.Class.TheVariants.{Printable}
use Rattle.layout.specs.Line.{printable}

-- what holds of the first n holds of a part of them
inside : (n at w : ℕ) (s : List ℕ) → at + w ≤ n → all (is_of Printable) (take n s) ≡ true → all (is_of Printable) (part s at w) ≡ true
inside n zero zero s h e = refl
inside n (suc at) zero s h e = refl
inside zero zero (suc w) s h e = absurd (omega arith)
inside zero (suc at) (suc w) s h e = absurd (omega arith)
inside (suc n) zero (suc w) [] h e = refl
inside (suc n) zero (suc w) (b ∷ s) h e =
    let both = (and-eq-true_iff (is_of Printable b) (all (is_of Printable) (take n s))).0 e in
    rw both.0 (inside n zero w s (omega arith) both.1)
inside (suc n) (suc at) (suc w) [] h e = refl
inside (suc n) (suc at) (suc w) (b ∷ s) h e =
    let both = (and-eq-true_iff (is_of Printable b) (all (is_of Printable) (take n s))).0 e in
    inside n at (suc w) s (omega arith) both.1

pub printable_field : (s : List ℕ) (at w : ℕ) → at + w < 139 → printable s ≡ true → all (is_of Printable) (part s at w) ≡ true
printable_field s at w h e = inside 138 at w s (omega arith) e
