-- `piece::is_plain` meets its contract.
use Rattle.piece.proofs.Begun.{found_plain}
use Rattle.piece.proofs.is_plain.Goals as goal

pub returns : goal.returns
returns c e =
    found_plain c.args.text.now c.args.at c.requires c.if-text-at-lt-LINE.false c.if-text-at-eq-LF.false c.if-text-at-ne-LF.false (c.fields_printable.ensures e)
