-- `piece::next` meets its contract: nothing at or past the end, else the place that `end` answers.
use borrow.Author.Rules.{rules}
use Rattle.piece.proofs.Lengths.{piece_left}
use Rattle.piece.proofs.Promised.{nexts}
use Rattle.piece.proofs.next.Goals as goal

pub returns : goal.returns
returns c = nexts _ _ (piece_left _ _ _ (search rules) c.end.ensures)
