-- the words before the j-th were compared
use Rattle.std.proofs.Common.{◌*◌}
use Rattle.run.specs.Words.{SameUpTo}
use Rattle.run.proofs.same_words.Given as goal

abbrev pub invariant-loop-j : goal.invariant-loop-j
invariant-loop-j l = SameUpTo l.s l.at l.other l.good (8 * l.j)
