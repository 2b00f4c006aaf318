-- `saving::put_entry` meets its contract: the orders come before the quote rows.
use Rattle.saving.proofs.Days.{order_put, row_put}
use Rattle.saving.proofs.put_entry.Goals as goal

pub returns-then-k-n : goal.returns-then-k-n
returns-then-k-n c =
    order_put c.args.t.now c.count-n.ensures c.if-k-n.true c.order_at.ensures c.put_order.ensures

pub returns : goal.returns
returns c =
    row_put c.args.t.now c.count-n.ensures c.if-k-n.false c.requires.k_bound c.row_at.ensures c.put_row.ensures
