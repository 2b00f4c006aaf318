-- `reader::count` meets its contract: each turn counts the piece that the reader goes past.
use Rattle.std.proofs.Common.{sym, ap, ◌∙◌, arith}
use Rattle.reader.proofs.Standing.{goes_past, behind_inside, behind_later, counted}
use Rattle.reader.proofs.count.Goals as goal

pub loop-r-smaller : goal.loop-r-smaller
loop-r-smaller c =
    let s = c.args.text.now in
    let r = c.loop-r.r in
    let g = goes_past r s c.loop-r.invariant.0 c.next.ensures (sym c.is_some.ensures ∙ c.loop-r-test.true) c.past-r.ensures in
    omega (arith, behind_later s r.at g.0)

pub loop-r-preserved : goal.loop-r-preserved
loop-r-preserved c =
    let s = c.args.text.now in
    let r = c.loop-r.r in
    let i = c.loop-r.invariant in
    let g = goes_past r s i.0 c.next.ensures (sym c.is_some.ensures ∙ c.loop-r-test.true) c.past-r.ensures in
    let later = behind_later s r.at g.0 in
    (ap (λ x. x.now) g.1 ∙ i.0, omega (arith, behind_inside s r.at i.1), omega arith, i.3 ∙ counted s r.at c.loop-r.n _ g.0 g.2)
