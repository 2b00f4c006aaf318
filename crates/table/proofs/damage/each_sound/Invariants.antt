-- `table::damage::each_sound` meets its contract: the rows behind those that it has passed decide.
use Rattle.table.proofs.RowPasses.{RowsPassed}
use Rattle.table.proofs.damage.each_sound.Given as goal

abbrev pub invariant-loop-i : goal.invariant-loop-i
invariant-loop-i l = RowsPassed l.base l.n l.t l.i
