-- the bytes before the i-th were compared
use Rattle.run.specs.Words.{SameUpTo}
use Rattle.run.proofs.same_at.Given as goal

abbrev pub invariant-loop-i : goal.invariant-loop-i
invariant-loop-i l = SameUpTo l.s l.at l.other l.good l.i
