-- 01, The line: "a piece runs up to and including the next LF, or to the end of the text".
use Rattle.std.specs.Prelude.{ℕ, ◌+◌, cond, Option, Some, None, List, [], ◌∷◌, ltb, eqb, length, drop}

-- a byte in front of the first piece
abbrev pub join_first : ℕ → List (List ℕ) → List (List ℕ)
join_first b [] = (b ∷ []) ∷ []
join_first b (p ∷ ps) = (b ∷ p) ∷ ps

-- the pieces of a text, in its order
abbrev pub pieces : List ℕ → List (List ℕ)
pieces [] = []
pieces (b ∷ s) = cond (eqb b 10) ((b ∷ []) ∷ pieces s) (join_first b (pieces s))

-- how long the first piece of a text is
abbrev pub piece_length : List ℕ → ℕ
piece_length [] = 0
piece_length (b ∷ s) = cond (eqb b 10) 1 (piece_length s + 1)

-- "At or past the end it answers that nothing is left." A piece is said by the place behind it
abbrev pub next_piece : List ℕ → ℕ → Option ℕ
next_piece s at = cond (ltb at (length s)) (Some (at + piece_length (drop at s))) None
