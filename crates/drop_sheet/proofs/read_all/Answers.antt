-- `drop_sheet::read_all` meets its contract: chunk after chunk, what is read is one text.
use mathlib.Core.Path.{◌∙◌}
use Rattle.feed.specs.Steps.{between_of}
use Rattle.sheet_run.proofs.Leading.{more_read}
use Rattle.drop_sheet.proofs.read_all.Goals as goal

pub loop-preserved : goal.loop-preserved
loop-preserved g c =
    let one = c.take in
    let inv = c.loop.invariant in
    (more_read {x = between_of c.args.hold.now c.args.day.now.table.now} inv.0 c.in_ok-take.ensures.takes, one.ensures.long ∙ inv.1, c.read.auto.buf ∙ inv.2, one.auto.out ∙ inv.3)
