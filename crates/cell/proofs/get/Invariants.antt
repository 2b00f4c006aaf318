-- the number so far is what the bytes read so far say
use Rattle.cell.proofs.Loops.{Got}
use Rattle.cell.proofs.get.Given as goal

abbrev pub invariant-loop-i : goal.invariant-loop-i
invariant-loop-i l = Got l.s l.at l.w l.v l.i
