-- `groups::put` meets its contract: the groups stored, and those left, give the same end.
use borrow.Author.Rules.{rules}
use Rattle.groups.proofs.Writing.{put_next, put_last}
use Rattle.groups.proofs.put.Goals as goal

pub loop-rest-preserved : goal.loop-rest-preserved
loop-rest-preserved c = put_next c.loop-rest.invariant (search rules)

pub returns : goal.returns
returns c = put_last c.loop-rest.invariant (search rules)
