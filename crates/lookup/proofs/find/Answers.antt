-- `lookup::find` meets its contract: by the index or by a scan, the place is that of the earliest order with the key.
use Rattle.std.proofs.Common.{arith}
use Rattle.table.proofs.Sound.{header_there, slots_there}
use Rattle.lookup.proofs.find.Goals as goal

pub count-n-requires : goal.count-n-requires
count-n-requires c = header_there c.args.t.now c.requires.t_value

pub find-requires-clause-n_in_bounds : goal.find-requires-clause-n_in_bounds
find-requires-clause-n_in_bounds c = omega (arith, c.count-n.ensures, slots_there c.args.t.now c.requires.t_value)
