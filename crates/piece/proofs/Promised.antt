-- What `piece::next` answers says the first of the pieces that are left.
use Prim.Native.Nat.{ℕ, ◌+◌, ◌-◌}
use native.Mathlib.Omega.{arith}
use mathlib.Core.Path.{◌≡◌, refl, ap, ◌∙◌}
use mathlib.Core.Bool.{Bool, true, false, cond}
use mathlib.Core.List.{List}
use borrow.Author.Tests.{ltb-true, ltb-false}
use lib.Dec.{ltb}
use lib.ListN.{length, drop, drop_of_length-le}
use Rattle.piece.specs.Pieces.{pieces, piece_length, next_piece}
use Rattle.piece.specs.Promises.{left_by, first_of, Nexts}
use Rattle.std.proofs.Common.{Option, Some, None}
use Rattle.piece.proofs.Firsts.{first_piece_at}

module _ (s : List ℕ) (at : ℕ) where
  says_first : left_by s at (next_piece s at) ≡ first_of (pieces (drop at s))
  says_first = go (ltb at (length s)) refl
    where
      go : (t : Bool) → ltb at (length s) ≡ t → left_by s at (cond t (Some (at + piece_length (drop at s))) None) ≡ first_of (pieces (drop at s))
      go true e =
          let long : at + piece_length (drop at s) - at ≡ piece_length (drop at s) = omega arith in
          rw (first_piece_at s at (ltb-true at (length s) e), long)
      go false e = rw (drop_of_length-le s (ltb-false at (length s) e))

  pub nexts : {r : Option ℕ} → r ≡ next_piece s at → Nexts s at r
  nexts e = record { said = e; told = ap (left_by s at) e ∙ says_first }
