-- `reader::nth` meets its contract: each turn goes past a piece, to where the next number starts; where nothing is left, each later number starts too.
use Rattle.std.proofs.Common.{◌≡◌, ap, ◌∙◌, arith, not}
use Rattle.reader.specs.Numbering.{start_of}
use Rattle.reader.proofs.Numbers.{start_next, start_at_end, numbered}
use Rattle.reader.proofs.Standing.{goes_past, finds_none}
use Rattle.reader.proofs.nth.Goals as goal
use Rattle.reader.proofs.nth.Goals.{else-loop-test, then-loop-test+then-is_none}

pub loop-preserved : goal.loop-preserved
loop-preserved c =
    let s = c.args.text.now in
    let l = c.loop in
    let over = ap (λ x. x.now) (l.invariant.0 ∙ ap (λ x. x.text) c.over-r.ensures) in
    let g = goes_past l.r s over c.next.ensures c.if-is_none.ensures c.past-r.ensures in
    (g.1 ∙ l.invariant.0, rw l.invariant.1 at g.2 ∙ start_next l.counter s)

pub returns : goal.returns
returns c =
    let s = c.args.text.now in
    let l = c.loop in
    let text = l.invariant.0 ∙ ap (λ x. x.text) c.over-r.ensures in
    let there : l.r.at ≡ start_of c.args.n s = elim c.loop-test.branch [
      | else-loop-test w ↦ (let same : l.counter ≡ c.args.n = omega arith in l.invariant.1 ∙ ap (λ k. start_of k s) same)
      | then-loop-test+then-is_none w ↦
          (let none = w.is_none.ensures ∙ ap not w.if-is_none.true in
          l.invariant.1 ∙ start_at_end l.counter c.args.n s (omega arith) (rw l.invariant.1 at (finds_none l.r s (ap (λ x. x.now) text) w.next.ensures none)))
    ] in
    numbered c.args.text c.args.n l.r.at c.bytes.result there (rw text at c.bytes.ensures)
