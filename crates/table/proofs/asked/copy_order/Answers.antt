-- `table::asked::copy_order` meets its contract.
use Rattle.table.proofs.Asking.{slots_held}
use Rattle.table.proofs.Sound.{header_there}
use Rattle.table.proofs.asked.copy_order.Goals as goal

pub count-requires : goal.count-requires
count-requires c = header_there c.args.t.now c.in_ok-undamaged.ensures

pub copy-requires-clause-holds : goal.copy-requires-clause-holds
copy-requires-clause-holds c = rw (c.slots.ensures, c.count.ensures) (slots_held c.args.t.now c.in_ok-undamaged.ensures)
