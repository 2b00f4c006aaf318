-- `sheet::family::rows` meets its contract: stretch after stretch, until so many rows are written or none is left.
use Rattle.sheet.specs.Walk.{text_left}
use Rattle.sheet.proofs.Stretches.{Going}
use Rattle.sheet.proofs.family.rows.Given as goal

abbrev pub invariant-loop-left : goal.invariant-loop-left
invariant-loop-left l =
    Going l.orders.t.now l.orders.n (text_left l.orders.n l.orders.t.now l.most l.initial.next) l.initial.out l.out l.wrote l.left l.next

abbrev pub decreases-loop-left : goal.decreases-loop-left
decreases-loop-left l = l.left
