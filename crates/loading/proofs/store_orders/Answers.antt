-- `loading::store_orders` meets its contract: the orders read so far, and no others, are put behind those of the table.
use borrow.Author.Rules.{rules}
use Rattle.saved.specs.Entries.{saved_order_in}
use Rattle.saved.proofs.Savable.{order_inside}
use Rattle.table.specs.Changes.{appended}
use Rattle.table.proofs.Holding.{length_appended}
use Rattle.loading.proofs.Storing.{none_stored, all_stored, stopped, one_stored, slot_free}
use Rattle.loading.proofs.store_orders.Goals as goal

pub loop-init : goal.loop-init
loop-init c = none_stored saved_order_in appended c.args.s.now c.args.at c.args.n c.args.t.now c.requires.at_in_bounds

pub returns-in_err-order : goal.returns-in_err-order
returns-in_err-order c =
    rw c.from_residual.ensures (stopped saved_order_in appended c.loop.invariant (search rules) c.in_err-order.ensures)

pub append-requires : goal.append-requires
append-requires c = slot_free c.loop.invariant (search rules) c.requires.n_bound

pub loop-preserved : goal.loop-preserved
loop-preserved c =
    one_stored saved_order_in appended c.loop.invariant order_inside length_appended (search rules) c.in_ok-order.ensures c.append.ensures

pub returns : goal.returns
returns c = all_stored saved_order_in appended c.loop.invariant (search rules)
