-- `entry::read::order_from` meets its contract: where the parts have a size it is their sum.
use Rattle.entry.proofs.Entries.{no_order, order_made}
use Rattle.entry.proofs.read.order_from.Goals as goal

pub returns-in_err-size_of : goal.returns-in_err-size_of
returns-in_err-size_of c = rw c.from_residual.ensures (no_order c.args.q c.args.numbers c.in_err-size_of.ensures)

pub returns-then-sound_order : goal.returns-then-sound_order
returns-then-sound_order c =
    rw c.if-sound_order.true at (order_made c.args.q c.args.numbers _ c.sound_order.result c.in_ok-size_of.ensures c.sound_order.ensures)

pub returns-else-sound_order : goal.returns-else-sound_order
returns-else-sound_order c =
    rw c.if-sound_order.false at (order_made c.args.q c.args.numbers _ c.sound_order.result c.in_ok-size_of.ensures c.sound_order.ensures)
