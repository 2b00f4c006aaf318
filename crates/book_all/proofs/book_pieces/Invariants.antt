-- `book_all::book_pieces` meets its contract: at each turn, what was booked and what is left to book are the whole.
use Rattle.book_all.proofs.Turns.{Turn}
use Rattle.lookup.specs.Lent.{SameLent}
use Rattle.book_all.proofs.book_pieces.Given as goal

-- the turn, over the table and the index that were lent
abbrev pub invariant-loop-pieces : goal.invariant-loop-pieces
invariant-loop-pieces l = Turn l.initial.day.table.now l.text l.initial.answers l.day.table.now l.answers l.bytes l.pieces × SameLent l.initial.day l.day
