-- Pieces booked into a lent table one after another.
use Rattle.std.specs.Prelude.{ℕ, ◌+◌, List, [], ◌∷◌, length, take, Result}
use Rattle.refusal.specs.Answer.{answer_of, code_of}
use Rattle.refusal.specs.declared.Refusal.{Refusal}
use Rattle.book.specs.Bytes.{book_answer, book_bytes}
use Rattle.book.specs.Promises.{Books}
use Rattle.piece.specs.Pieces.{pieces}

-- the answer to each, 0 or its refusal, from the table that those before it left
abbrev pub answers_to : List ℕ → List (List ℕ) → List ℕ
answers_to table [] = []
answers_to table (p ∷ ps) = code_of (book_answer table p) ∷ answers_to (book_bytes table p) ps

-- the table after all of them
abbrev pub table_after : List ℕ → List (List ℕ) → List ℕ
table_after table [] = table
table_after table (p ∷ ps) = table_after (book_bytes table p) ps

-- those of a text that there is room for: the first ones, up to the end of the text or of the answers
abbrev pub first_pieces : ℕ → List ℕ → List (List ℕ)
first_pieces room text = take room (pieces text)

-- how many bytes they are together
abbrev pub bytes_of : List (List ℕ) → ℕ
bytes_of [] = 0
bytes_of (p ∷ ps) = length p + bytes_of ps

-- a call of `book::book` for each, in their order: what the calls answer, and the table that they leave
pub data Calls : List ℕ → List (List ℕ) → List ℕ → List ℕ → Type 0 where
  none : {table : List ℕ} → Calls table [] [] table
  next : {table p after last : List ℕ} {ps : List (List ℕ)} {x : Result (Unit {0}) Refusal} {answers : List ℕ}
      → Books table p x after → Calls after ps answers last → Calls table (p ∷ ps) (code_of (answer_of x) ∷ answers) last
