-- `groups::get_all` meets its contract: the numbers read so far are the first of the list.
use Rattle.groups.proofs.ReadingAll.{Got}
use Rattle.groups.proofs.get_all.Given as goal

abbrev pub invariant-loop-v : goal.invariant-loop-v
invariant-loop-v l = Got l.s l.at l.initial.values l.values l.place l.v-index
