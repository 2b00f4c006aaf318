-- `loading::read_rows` meets its contract: the rows read so far stand in scratch.
use Rattle.loading.proofs.Rows.{Held}
use Rattle.loading.proofs.read_rows.Given as goal

abbrev pub invariant-loop-i : goal.invariant-loop-i
invariant-loop-i l = Held l.s l.at l.n l.initial.scratch l.scratch l.place l.i
