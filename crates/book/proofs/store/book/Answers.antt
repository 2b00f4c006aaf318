-- `book::store::book` meets its contract.
use borrow.Author.Rules.{rules}
use Rattle.book.proofs.Booked.{damaged}
use Rattle.book.proofs.store.book.Goals as goal

pub returns-then-not-is_sound : goal.returns-then-not-is_sound
returns-then-not-is_sound c = damaged c.args.t.now c.args.piece.now (search rules)
