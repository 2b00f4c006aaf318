-- The first piece of a text, by its length: what it is, and the pieces behind it.
use Prim.Native.Nat.{ℕ, ◌+◌, ◌<◌}
use native.Mathlib.Numerals.{add-one}
use mathlib.Core.Path.{◌≡◌, refl}
use mathlib.Core.Bool.{Bool, true, false, cond}
use mathlib.Core.List.{List, [], ◌∷◌}
use lib.Dec.{eqb}
use lib.ListN.{length, get_or, take, drop}
use lib.Seq.{drop-drop}
use Rattle.piece.specs.Pieces.{join_first, pieces, piece_length}
use Rattle.run.proofs.Scan.{at_next}

-- the first piece of a text, and what is left behind it
abbrev pub front : List ℕ → List ℕ
front s = take (piece_length s) s

abbrev pub behind : List ℕ → List ℕ
behind s = drop (piece_length s) s

pub first_piece : (b : ℕ) (s : List ℕ) → pieces (b ∷ s) ≡ front (b ∷ s) ∷ pieces (behind (b ∷ s))
first_piece b [] = go (eqb b 10)
  where
    go : (t : Bool) → cond t ((b ∷ []) ∷ []) ((b ∷ []) ∷ []) ≡ take (cond t 1 1) (b ∷ []) ∷ pieces (drop (cond t 1 1) (b ∷ []))
    go true = refl
    go false = refl
first_piece b (c ∷ s) = go (eqb b 10) (piece_length (c ∷ s)) (first_piece c s)
  where
    go : (t : Bool) (n : ℕ) → pieces (c ∷ s) ≡ take n (c ∷ s) ∷ pieces (drop n (c ∷ s))
        → cond t ((b ∷ []) ∷ pieces (c ∷ s)) (join_first b (pieces (c ∷ s)))
        ≡ take (cond t 1 (n + 1)) (b ∷ c ∷ s) ∷ pieces (drop (cond t 1 (n + 1)) (b ∷ c ∷ s))
    go true n e = refl
    go false n e = rw (add-one, e)

-- the same from a place on
pub first_piece_at : (s : List ℕ) (at : ℕ) → at < length s → pieces (drop at s) ≡ front (drop at s) ∷ pieces (drop (at + piece_length (drop at s)) s)
first_piece_at s at h = rw (← drop-drop, at_next s at h) (first_piece (get_or s at 0) (drop (at + 1) s))
