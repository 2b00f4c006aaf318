-- What booking a piece into a lent table promises.
use Rattle.std.specs.Prelude.{ℕ, ◌≡◌, List, Result}
use Rattle.refusal.specs.Answer.{answer_of}
use Rattle.refusal.specs.declared.Refusal.{Refusal}
use Rattle.book.specs.Bytes.{book_bytes, book_answer}

-- `book::book`: `after` is the lent table when it returns
pub record Books (before piece : List ℕ) (x : Result (Unit {0}) Refusal) (after : List ℕ) : Type 0 where
  pub said : answer_of x ≡ book_answer before piece
  pub out : after ≡ book_bytes before piece
