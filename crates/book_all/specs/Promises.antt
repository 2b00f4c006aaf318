-- What booking a text in one call promises.
use Rattle.std.specs.Prelude.{ℕ, ◌≡◌, cond, List, length, Result}
use Rattle.std.proofs.lemmas.List.Edits.{sets}
use Rattle.refusal.specs.Answer.{Answer, value, refused, answer_of}
use Rattle.refusal.specs.declared.Refusal.{Refusal}
use Rattle.table.specs.Tables.{sound}
use Rattle.book_all.specs.InTurn.{answers_to, table_after, first_pieces, bytes_of}
use Rattle.book_all.specs.declared.Used.{Used}

-- how many bytes and pieces of a text are used, with room for so many answers
abbrev pub used_of : ℕ → List ℕ → Used
used_of room text = record { bytes = bytes_of (first_pieces room text); pieces = length (first_pieces room text) }

-- 5 before anything; a refused piece is an answer and ends nothing
abbrev pub book_all_answer : List ℕ → List ℕ → List ℕ → Answer Used
book_all_answer table text answers = cond (sound table) (value (used_of (length answers) text)) (refused 5 0)

-- the table: as booking the pieces one after another leaves it
abbrev pub table_from : Answer Used → List ℕ → List ℕ → List ℕ → List ℕ
table_from (value u) table text answers = table_after table (first_pieces (length answers) text)
table_from (refused n f) table text answers = table

-- the lent answers: one for each piece that is used, from the front; those behind them stay
abbrev pub answers_from : Answer Used → List ℕ → List ℕ → List ℕ → List ℕ
answers_from (value u) table text answers = sets answers 0 (answers_to table (first_pieces (length answers) text))
answers_from (refused n f) table text answers = answers

-- `book_all::book`: `after` and `given` are the lent table and the lent answers when it returns
pub record BooksAll (table text answers : List ℕ) (x : Result Used Refusal) (after given : List ℕ) : Type 0 where
  pub said : answer_of x ≡ book_all_answer table text answers
  pub out : after ≡ table_from (book_all_answer table text answers) table text answers
  pub told : given ≡ answers_from (book_all_answer table text answers) table text answers
