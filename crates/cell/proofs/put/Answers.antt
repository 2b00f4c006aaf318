-- `cell::put` meets its contract: what is stored, and what is left to store, give the same end.
use Rattle.std.proofs.Common.{◌∙◌, rules, length-set}
use Rattle.cell.proofs.Loops.{put_next}
use Rattle.cell.proofs.put.Goals as goal

pub loop-i-preserved : goal.loop-i-preserved
loop-i-preserved c =
    let l = c.loop-i in
    let a = c.args in
    (simp length-set l.invariant.0, put_next l.out a.at a.w l.i l.rest (search rules) ∙ l.invariant.1)
