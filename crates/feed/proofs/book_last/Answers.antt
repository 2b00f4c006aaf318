-- `feed::book_last` meets its contract: nothing where nothing is held, else the piece that is held.
use borrow.Author.Rules.{rules}
use Rattle.feed.proofs.Saying.{last_says, none_says}
use Rattle.feed.proofs.book_last.Goals as goal

pub returns-then-is_empty : goal.returns-then-is_empty
returns-then-is_empty c =
    let a = c.args in
    let s = none_says a.hold.now.piece a.hold.now.line a.day.now.table.now a.out.now (rw (← c.piece.ensures) (search rules)) in
    record { wrote = s.0; t_after = s.1; same = search rules }

pub returns : goal.returns
returns c =
    let a = c.args in
    let booked = c.book_held.ensures in
    let s = last_says a.hold.now.line a.day.now.table.now a.hold.now.piece (rw (← c.piece.ensures) (search rules)) (booked.wrote, booked.t_after) in
    record { wrote = s.0; t_after = s.1; same = booked.same }
