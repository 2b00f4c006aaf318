-- 01, The line: "a piece runs up to and including the next LF, or to the end of the text": the pieces of a text by their numbers, counted from 0.
use Rattle.std.specs.Prelude.{ℕ, ◌+◌, ◌≡◌, List, [], ◌∷◌, length, get_or, take}
use Rattle.std.specs.Borrow.{Bor}
use Rattle.piece.specs.Pieces.{pieces}

-- the piece with a number; empty where the text has no such piece
abbrev pub piece_no : ℕ → List ℕ → List ℕ
piece_no n s = get_or (pieces s) n []

-- how many bytes pieces have together
abbrev pub bytes_in : List (List ℕ) → ℕ
bytes_in [] = 0
bytes_in (p ∷ ps) = length p + bytes_in ps

-- the place where it starts, behind the pieces before it; the end where the text has no such piece
abbrev pub start_of : ℕ → List ℕ → ℕ
start_of n s = bytes_in (take n (pieces s))

-- p is the piece of the lent text with a number, in the text itself
pub record Numbered (text : Bor (List ℕ)) (n : ℕ) (p : Bor (List ℕ)) : Type 0 where
  pub said : p.now ≡ piece_no n text.now
  pub place : p.ref_ptr ≡ (text.ref_ptr.0, start_of n text.now + text.ref_ptr.1)
