-- `writing::output::write` meets its contract.
use Rattle.writing.proofs.Writings.{whole_line}
use Rattle.writing.proofs.output.write.Goals as goal

pub returns : goal.returns
returns c = whole_line c.args.r c.args.out.now c.if-out-lt-LINE.false c.in_ok-check.ensures _ c.event_fields.ensures
