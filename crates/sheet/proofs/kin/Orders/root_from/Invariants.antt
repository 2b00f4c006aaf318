-- `sheet::kin::Orders::root_from` meets its contract: while each order before place i has an elder, the search from i on is the whole search.
use Rattle.sheet.proofs.Seeking.{Sought}
use Rattle.sheet.proofs.kin.Orders.root_from.Given as goal

abbrev pub invariant-loop-i : goal.invariant-loop-i
invariant-loop-i l = Sought l.self.t.now l.self.n l.from l.i
