-- what was seen so far, and the rest of the run, give the whole answer
use Rattle.std.proofs.Common.{◌≡◌, ◌&&◌, drop}
use Rattle.run.specs.Runs.{all, is_zero}
use Rattle.run.proofs.zeros.Given as goal

abbrev pub invariant-loop-b : goal.invariant-loop-b
invariant-loop-b l = all is_zero l.b-items ≡ (l.good && all is_zero (drop l.b-index l.b-items))
