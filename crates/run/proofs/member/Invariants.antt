-- what was found so far, and the rest of the run, give the whole answer
use Rattle.std.proofs.Common.{◌≡◌, ◌||◌, drop}
use Rattle.run.specs.Runs.{member as runs_member}
use Rattle.run.proofs.member.Given as goal

abbrev pub invariant-loop-x : goal.invariant-loop-x
invariant-loop-x l = runs_member l.b l.s ≡ (l.found || runs_member l.b (drop l.x-index l.s))
