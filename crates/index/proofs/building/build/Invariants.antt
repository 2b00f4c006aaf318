-- `index::building::build` meets its contract: the records passed are entered.
use Rattle.index.specs.Indexes.{Indexed}
use Rattle.index.proofs.building.build.Given as goal

abbrev pub invariant-loop-i : goal.invariant-loop-i
invariant-loop-i l = Indexed l.keys l.t l.i l.heads l.nexts
