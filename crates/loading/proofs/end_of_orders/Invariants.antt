-- `loading::end_of_orders` meets its contract: the orders read so far are undamaged and seen; one that may not follow damages all, whatever stands behind it.
use Rattle.loading.proofs.Checking.{Checked}
use Rattle.loading.proofs.end_of_orders.Given as goal

abbrev pub invariant-loop-i : goal.invariant-loop-i
invariant-loop-i l = Checked l.s l.at l.n l.flags l.place l.i
