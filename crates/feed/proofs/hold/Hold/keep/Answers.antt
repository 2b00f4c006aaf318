-- `feed::hold::Hold::keep` meets its contract: what is taken of the part is as much as there is room for, and no more is kept of a piece.
use borrow.Author.Rules.{rules}
use Rattle.feed.proofs.Keeping.{keeps}
use Rattle.feed.proofs.hold.Hold.keep.Goals as goal

pub returns-clause-piece : goal.returns-clause-piece
returns-clause-piece c =
    let h = c.self.inside in
    rw (← c.self.view_is) (keeps h.bytes c.args.part.now h.held c.min-n.result (search rules) c.self.invariant c.min-n.ensures c.store.ensures)
