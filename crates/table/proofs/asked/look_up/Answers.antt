-- `table::asked::look_up` meets its contract.
use native.Mathlib.Omega.{arith}
use Rattle.table.proofs.Sound.{header_there, slots_there}
use Rattle.table.proofs.asked.look_up.Goals as goal

pub count-requires : goal.count-requires
count-requires c = header_there c.args.t.now c.in_ok-undamaged.ensures

pub find-requires-clause-n_in_bounds : goal.find-requires-clause-n_in_bounds
find-requires-clause-n_in_bounds c = omega (arith, c.count.ensures, slots_there c.args.t.now c.in_ok-undamaged.ensures)
