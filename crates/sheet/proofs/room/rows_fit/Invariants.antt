-- `sheet::room::rows_fit` meets its contract: the rows left fit into the space left exactly when all of them fit into all of it.
use Prim.Native.Nat.{◌-◌}
use Rattle.sheet.specs.Walk.{text_left}
use Rattle.sheet.proofs.Fitting.{Fitting}
use Rattle.sheet.proofs.room.rows_fit.Given as goal

abbrev pub invariant-loop : goal.invariant-loop
invariant-loop l =
    Fitting l.orders.t.now l.orders.n (text_left l.orders.n l.orders.t.now l.most l.initial.next) l.space l.free (l.most - l.counter) l.next
