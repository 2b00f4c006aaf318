-- `groups::put_all` meets its contract: the numbers stored, and those left, give the same end.
use Rattle.groups.proofs.Writing.{PuttingAll}
use Rattle.groups.proofs.put_all.Given as goal

abbrev pub invariant-loop-v : goal.invariant-loop-v
invariant-loop-v l = PuttingAll l.initial.out l.at l.values l.out l.place l.v-index
