-- `sheet::walk::count_roots` meets its contract: those counted and those from place i on are all.
use native.Mathlib.Omega.{arith}
use borrow.Author.Rules.{rules}
use Rattle.sheet.proofs.Seeking.{counted_none, counted_root, counted_other, counted_all}
use Rattle.sheet.proofs.walk.count_roots.Goals as goal
use Rattle.sheet.proofs.walk.count_roots.Goals.{then-elder_at-eq0, else-elder_at-eq0}

pub loop-i-init : goal.loop-i-init
loop-i-init c = counted_none

pub loop-i-preserved : goal.loop-i-preserved
loop-i-preserved c =
    let x = c.loop-i.invariant in
    elim c.if-elder_at-eq0.branch [
      | then-elder_at-eq0 w ↦ rw w.roots-is (counted_root x (omega arith) c.elder_at.ensures w.if-elder_at-eq0.true)
      | else-elder_at-eq0 w ↦ rw w.roots-is (counted_other x (omega arith) c.elder_at.ensures w.if-elder_at-eq0.false)
    ]

pub returns : goal.returns
returns c = counted_all c.loop-i.invariant (search rules)
