-- `table::rows::find_row` meets its contract.
use native.Mathlib.Omega.{arith}
use Rattle.table.proofs.Sound.{header_there, rows_there}
use Rattle.table.proofs.rows.find_row.Goals as goal

pub row_count-requires : goal.row_count-requires
row_count-requires c = header_there c.args.t.now c.requires.t_value

pub find-requires-clause-n_in_bounds : goal.find-requires-clause-n_in_bounds
find-requires-clause-n_in_bounds c = omega (arith, c.row_count.ensures, c.base.ensures, rows_there c.args.t.now c.requires.t_value)
