-- `run::same_at` meets its contract: what was seen so far, and the rest, give the whole answer.
use Rattle.std.proofs.Common.{arith}
use Rattle.run.proofs.Sameness.{same_next}
use Rattle.run.proofs.same_at.Goals as goal

pub loop-i-preserved : goal.loop-i-preserved
loop-i-preserved c =
    let l = c.loop-i in
    let a = c.args in
    same_next a.s.now a.other.now a.at l.i _ l.good c.requires (omega arith) l.invariant
