-- `groups::put` meets its contract: the groups stored, and those left, give the same end.
use Rattle.groups.proofs.Writing.{Putting}
use Rattle.groups.proofs.put.Given as goal

abbrev pub invariant-loop-rest : goal.invariant-loop-rest
invariant-loop-rest l = Putting l.initial.out l.at l.v l.out l.rest l.i

abbrev pub decreases-loop-rest : goal.decreases-loop-rest
decreases-loop-rest l = l.rest
