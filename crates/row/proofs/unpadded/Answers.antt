-- `row::unpadded` meets its contract: nothing but padding stands behind what is left, and the last byte of that is none.
use mathlib.Core.Path.{sym, ap, ◌∙◌}
use Rattle.row.specs.Texts.{trimmed}
use Rattle.row.proofs.Trimming.{trimmed_space, trimmed_text}
use Rattle.row.proofs.unpadded.Goals as goal

pub loop-last-preserved : goal.loop-last-preserved
loop-last-preserved c =
    c.loop-last.invariant ∙ ap trimmed c.in-Some.ensures.cases.0 ∙ rw c.if-last-eq32.true (trimmed_space c.in-Some.rest.now)

pub returns-else-last-eq32 : goal.returns-else-last-eq32
returns-else-last-eq32 c =
    let left = c.in-Some.ensures.cases.0 in
    sym (c.loop-last.invariant ∙ ap trimmed left ∙ trimmed_text c.in-Some.rest.now _ c.if-last-eq32.false ∙ sym left)
