-- `field::put::filled` meets its contract: what is written from the right, and what is left to write, give the same end.
use mathlib.Core.Path.{◌∙◌}
use native.Mathlib.Omega.{arith}
use Rattle.field.proofs.Stores.{rest_next, rest_end, filled_first}
use Rattle.field.proofs.put.filled.Goals as goal

pub loop-left-preserved : goal.loop-left-preserved
loop-left-preserved c =
    let l = c.loop-left in
    let a = c.args in
    rest_next l.out a.at a.fill l.left l.rest c.mark.result (omega arith) c.mark.ensures ∙ l.invariant

pub returns : goal.returns
returns c =
    let l = c.loop-left in
    let a = c.args in
    rest_end l.out a.at a.fill l.left l.rest (omega arith) ∙ l.invariant ∙ filled_first a.out.now a.at a.fill a.width a.v c.if-width-eq0.false
