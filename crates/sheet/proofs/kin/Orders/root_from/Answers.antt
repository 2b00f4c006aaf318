-- `sheet::kin::Orders::root_from` meets its contract: while each order before place i has an elder, the search from i on is the whole search.
use Rattle.sheet.proofs.Seeking.{sought_none, sought_more, sought_here, sought_all}
use Rattle.sheet.proofs.kin.Orders.root_from.Goals as goal

pub loop-i-init : goal.loop-i-init
loop-i-init c = sought_none c.requires

pub returns-then-elder_at-eq0 : goal.returns-then-elder_at-eq0
returns-then-elder_at-eq0 c = sought_here c.loop-i.invariant c.loop-i-test.true c.elder_at.ensures c.if-elder_at-eq0.true

pub loop-i-preserved : goal.loop-i-preserved
loop-i-preserved c = sought_more c.loop-i.invariant c.loop-i-test.true c.elder_at.ensures c.if-elder_at-eq0.false

pub returns : goal.returns
returns c = sought_all c.loop-i.invariant c.loop-i-test.false
