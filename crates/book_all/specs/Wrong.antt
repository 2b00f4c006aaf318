-- Wrong ways to book a text in one call. proofs/Refuted.antt shows that none of them keeps the promise.
use Rattle.std.specs.Prelude.{ℕ, ◌<◌, ◌≡◌, true, false, List, [], ◌∷◌, length, get_or, Result, Ok}
use Rattle.std.proofs.lemmas.List.Edits.{sets}
use Rattle.refusal.specs.Answer.{code_of}
use Rattle.refusal.specs.declared.Refusal.{Refusal}
use Rattle.table.specs.Tables.{sound}
use Rattle.book.specs.Bytes.{book_answer}
use Rattle.piece.specs.Pieces.{pieces}
use Rattle.book_all.specs.InTurn.{first_pieces}
use Rattle.book_all.specs.Promises.{BooksAll}
use Rattle.book_all.specs.declared.Used.{Used}

-- the answer to each piece from one and the same table
abbrev pub answers_from_one : List ℕ → List (List ℕ) → List ℕ
answers_from_one table [] = []
answers_from_one table (p ∷ ps) = code_of (book_answer table p) ∷ answers_from_one table ps

-- table, text and answers as they are lent give what is answered, and table and answers afterwards
module _ (book_all : List ℕ → List ℕ → List ℕ → Result Used Refusal × List ℕ × List ℕ) where
  abbrev pub Keeps : Type 0
  Keeps = (table text answers : List ℕ) →
      let r = book_all table text answers in
      BooksAll table text answers r.0 r.1 r.2

  -- somewhere the answer to piece i is left out: what was lent stands there, whatever it was
  abbrev pub LeavesOut : Type 0
  LeavesOut = (table : List ℕ) × (text : List ℕ) × (i : ℕ) × (sound table ≡ true) × (i < length (pieces text))
      × ((answers : List ℕ) → length answers ≡ length (pieces text) → get_or (book_all table text answers).2 i 0 ≡ get_or answers i 0)

  -- each piece is judged by the table as it was lent, not by what the pieces before it left
  abbrev pub JudgesByFirst : Type 0
  JudgesByFirst = (table text answers : List ℕ) → sound table ≡ true
      → (book_all table text answers).2 ≡ sets answers 0 (answers_from_one table (first_pieces (length answers) text))

  -- somewhere a damaged table is not refused
  abbrev pub TakesDamaged : Type 0
  TakesDamaged = (table : List ℕ) × (text : List ℕ) × (answers : List ℕ) × (u : Used) × (sound table ≡ false) × ((book_all table text answers).0 ≡ Ok u)
