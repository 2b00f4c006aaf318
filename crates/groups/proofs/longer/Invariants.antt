-- `groups::longer` meets its contract: the groups read so far, and those left, give the same end.
use Rattle.groups.proofs.Reading.{Reading}
use Rattle.groups.proofs.longer.Given as goal

abbrev pub invariant-loop-i : goal.invariant-loop-i
invariant-loop-i l = Reading l.s l.at l.low l.value l.unit l.i
