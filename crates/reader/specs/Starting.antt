-- 01, The line: "a piece runs up to and including the next LF, or to the end of the text": the piece that starts at a place.
use Rattle.std.specs.Prelude.{ℕ, ◌+◌, cond, List, ltb, length, take, drop}
use Rattle.piece.specs.Pieces.{piece_length}

-- its bytes; none at or past the end
abbrev pub piece_from : List ℕ → ℕ → List ℕ
piece_from s at = take (piece_length (drop at s)) (drop at s)

-- the place behind it; at or past the end the place itself
abbrev pub place_behind : List ℕ → ℕ → ℕ
place_behind s at = at + piece_length (drop at s)

-- a place of the text: itself, or the end for a place past it
abbrev pub place_in : List ℕ → ℕ → ℕ
place_in s at = cond (ltb at (length s)) at (length s)
