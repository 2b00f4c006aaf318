-- What a loop that reads numbers into lent ones keeps: those read so far are the first of them.
use Prim.Native.Nat.{ℕ, ◌+◌, ◌≤◌, ◌<◌}
use native.Mathlib.Numerals.{add-one}
use native.Mathlib.Omega.{arith}
use mathlib.Core.Path.{◌≡◌, ◌∙◌}
use mathlib.Core.List.{List, [], ◌∷◌, ◌++◌}
use lib.ListN.{length, take, drop, set, length-set}
use lib.Seq.{take-suc-set}
use Rattle.std.specs.Prelude.{Some, None}
use Rattle.groups.specs.Groups.{number_in, taken_at, ReadsAll}
use Rattle.groups.proofs.Behind.{ReadTo, read_next, read_stop}
use Rattle.groups.proofs.Numbers.{number_inside}

pub record Got (s : List ℕ) (at : ℕ) (before values : List ℕ) (place i : ℕ) : Type 0 where
  pub upto : i ≤ length before
  pub long : length values ≡ length before
  pub reading : ReadTo number_in s at (take i values) place i

module _ {s : List ℕ} {at : ℕ} {before values : List ℕ} {place i : ℕ} (g : Got s at before values place i) where
  pub got_next : (v next : ℕ) → i < length before → Some (v, next) ≡ taken_at place (number_in (drop place s)) → Got s at before (set values i v) next (i + 1)
  got_next v next h e =
      let fits : i < length values = omega (arith, g.long) in
      let more : take (i + 1) (set values i v) ≡ take i values ++ (v ∷ []) = rw (add-one i, take-suc-set values i v fits) in
      record {
        upto = omega arith;
        long = length-set values i v ∙ g.long;
        reading = rw more (read_next number_in g.reading e number_inside);
      }

  pub got_stop : i < length before → None ≡ taken_at place (number_in (drop place s)) → ReadsAll s at before None values
  got_stop h e =
      let stop = read_stop number_in g.reading e (length before) h in
      record { said = rw stop; room = g.long; values = λ vs w q. cc }
