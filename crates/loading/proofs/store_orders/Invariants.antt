-- `loading::store_orders` meets its contract: the orders read so far, and no others, are put behind those of the table.
use Rattle.saved.specs.Entries.{saved_order_in}
use Rattle.table.specs.Changes.{appended}
use Rattle.loading.proofs.Storing.{Stored}
use Rattle.loading.proofs.store_orders.Given as goal

abbrev pub invariant-loop : goal.invariant-loop
invariant-loop l = Stored saved_order_in appended l.s l.at l.n l.initial.t l.t l.place l.counter
