-- Laws of numbers and runs in a lent buffer: what is written is read back, and a store elsewhere changes nothing.
use Prim.Native.Nat.{ℕ, zero, suc, ◌+◌, ◌*◌, ◌/◌, ◌%◌, ◌^◌, ◌<◌}
use native.Mathlib.Nat.{pow-suc}
use native.Mathlib.Omega.{arith}
use mathlib.Core.Path.{◌≡◌, refl, ap}
use mathlib.Core.Bool.{true, and-eq-true_iff}
use mathlib.Core.List.{List, [], ◌∷◌}
use borrow.Author.Tests.{ltb-true}
use lib.Dec.{ltb}
use lib.ListN.{length}
use Rattle.run.specs.Runs.{all}
use Rattle.cell.specs.Cells.{le, le_bytes}

pub length_le : (w v : ℕ) → length (le_bytes w v) ≡ w
length_le zero v = refl
length_le (suc w) v = ap suc (length_le w (v / 256))

pub le_written : (w v : ℕ) → v < 256 ^ w → le (le_bytes w v) ≡ v
le_written zero v h = omega arith
le_written (suc w) v h = rw (le_written w (v / 256) (omega (arith, pow-suc 256 w))) (omega arith)

first_byte : (b : ℕ) (s : List ℕ) → all (λ b. ltb b 256) (b ∷ s) ≡ true → (b < 256) × (all (λ b. ltb b 256) s ≡ true)
first_byte b s e = let h = (and-eq-true_iff (ltb b 256) (all (λ b. ltb b 256) s)).0 e in (ltb-true b 256 h.0, h.1)

pub le_read : (s : List ℕ) → all (λ b. ltb b 256) s ≡ true → le_bytes (length s) (le s) ≡ s
le_read [] e = refl
le_read (b ∷ s) e =
    let h = first_byte b s e in
    let low : (b + 256 * le s) % 256 ≡ b = omega arith in
    let high : (b + 256 * le s) / 256 ≡ le s = omega arith in
    rw (low, high, le_read s h.1)
