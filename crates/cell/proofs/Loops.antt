-- What each loop keeps: what is done, and what is left to do, give the same end.
use Prim.Native.Nat.{ℕ, suc, ◌+◌, ◌-◌, ◌*◌, ◌/◌, ◌%◌, ◌^◌, ◌≤◌, ◌<◌}
use native.Mathlib.Nat.{pow-suc, pow-le-pow_right, lt_of_lt_of_le, le_refl, sub_self}
use native.Mathlib.Omega.{arith}
use mathlib.Core.Path.{◌≡◌}
use mathlib.Core.List.{List}
use lib.ListN.{length, get_or, drop, set}
use lib.Seq.{sets}
use Rattle.run.specs.Runs.{part}
use Rattle.cell.specs.Cells.{le, le_bytes}
use Rattle.run.proofs.Parts.{part_next, part_end}

-- ---- get

-- v is what the bytes from i on say, and no more than they can say
pub record Got (l : List ℕ) (at w v i : ℕ) : Type 0 where
  pub bound : v < 256 ^ (w - i)
  pub said : v ≡ le (drop i (part l at w))

pub get_first : (l : List ℕ) (at w : ℕ) → Got l at w 0 w
get_first l at w = record { bound = rw sub_self (omega arith); said = rw (part_end l at w w (le_refl w)) }

module _ {l : List ℕ} {at w v i : ℕ} (got : Got l at w v i) where
  pub get_next : at + w ≤ length l → 0 < i → i ≤ w → get_or l (at + (i - 1)) 0 < 256 → Got l at w (v * 256 + get_or l (at + (i - 1)) 0) (i - 1)
  get_next h p q b =
      let more : w - (i - 1) ≡ suc (w - i) = omega arith in
      let back : i - 1 + 1 ≡ i = omega arith in
      record {
        bound = rw (more, pow-suc) (omega (arith, got.bound));
        said = rw (part_next l at w (i - 1) h (omega arith), back, got.said) (omega arith);
      }

  -- one byte more fits
  pub get_room : 0 < i → w ≤ 8 → v < 256 ^ 7
  get_room p h = let read : w - i ≤ 7 = omega arith in lt_of_lt_of_le got.bound (pow-le-pow_right (omega arith) read)

-- ---- put

pub put_next : (l : List ℕ) (at w i v : ℕ) → i < w
    → sets (set l (at + i) (v % 256)) (at + (i + 1)) (le_bytes (w - (i + 1)) (v / 256)) ≡ sets l (at + i) (le_bytes (w - i) v)
put_next l at w i v h =
    let more : w - i ≡ suc (w - (i + 1)) = omega arith in
    let next : at + (i + 1) ≡ suc (at + i) = omega arith in
    rw (more, next)
