-- `table::asked::copy_row` meets its contract.
use Rattle.table.proofs.Asking.{rows_held}
use Rattle.table.proofs.Sound.{header_there}
use Rattle.table.proofs.asked.copy_row.Goals as goal

pub row_count-requires : goal.row_count-requires
row_count-requires c = header_there c.args.t.now c.in_ok-undamaged.ensures

pub copy-requires-clause-holds : goal.copy-requires-clause-holds
copy-requires-clause-holds c = rw (c.rows-rows.ensures, c.base.ensures, c.row_count.ensures) (rows_held c.args.t.now c.in_ok-undamaged.ensures)
