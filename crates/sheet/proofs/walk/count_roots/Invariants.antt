-- `sheet::walk::count_roots` meets its contract: those counted and those from place i on are all.
use Rattle.sheet.proofs.Seeking.{Counted}
use Rattle.sheet.proofs.walk.count_roots.Given as goal

abbrev pub invariant-loop-i : goal.invariant-loop-i
invariant-loop-i l = Counted l.t l.n l.i l.roots
