-- `book_all::book_pieces` meets its contract: at each turn, what was booked and what is left to book are the whole.
use borrow.Author.Rules.{rules}
use Rattle.piece.proofs.Lent.{piece_bounds, plain_lent}
use Rattle.book_all.proofs.Turns.{next_turn}
use Rattle.lookup.proofs.Lent.{lent_on}
use Rattle.book_all.proofs.book_pieces.Goals as goal

pub slice_bounds-book_sound-end : goal.slice_bounds-book_sound-end
slice_bounds-book_sound-end c =
    let bounds = piece_bounds c.args.text.now c.loop-pieces.bytes c.cut-cut.result.end c.if-text-bytes.false c.cut-cut.ensures.ends in
    search (rules, bounds)

pub book_sound-said-requires : goal.book_sound-said-requires
book_sound-said-requires c e = plain_lent _ _ _ c.cut-cut.ensures.ends (c.cut-cut.ensures.plain e)

pub loop-pieces-preserved : goal.loop-pieces-preserved
loop-pieces-preserved c =
    let booked = c.book_sound-said.ensures in (
      next_turn c.loop-pieces.invariant.0 c.cut-cut.result.end c.if-text-bytes.false c.loop-pieces-test.true c.cut-cut.ensures.ends booked.books c.answer.ensures,
      lent_on c.loop-pieces.invariant.1 booked.same,
    )
