-- `table::damage::each_sound` meets its contract: the rows behind those that it has passed decide.
use mathlib.Core.Bool.{not}
use mathlib.Core.Path.{ap}
use native.Mathlib.Omega.{arith}
use Rattle.table.proofs.Answers.{refuted, upheld}
use Rattle.table.proofs.RowPasses.{row_stops, row_passed}
use Rattle.table.proofs.damage.each_sound.Goals as goal

pub returns-then-not-sound_row : goal.returns-then-not-sound_row
returns-then-not-sound_row c =
    row_stops c.loop-i.invariant (omega arith) c.row_at.ensures
    (refuted _ _ c.sound_row.ensures (ap not c.if-not-sound_row.true))

pub loop-i-preserved : goal.loop-i-preserved
loop-i-preserved c =
    row_passed c.loop-i.invariant (omega arith) c.row_at.ensures
    (upheld _ _ c.sound_row.ensures (ap not c.if-not-sound_row.false))
