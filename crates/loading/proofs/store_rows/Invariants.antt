-- `loading::store_rows` meets its contract: the rows read so far, and no others, are put behind those of the table.
use Rattle.saved.specs.Entries.{saved_row_in}
use Rattle.table.specs.Changes.{row_appended}
use Rattle.loading.proofs.Storing.{Stored}
use Rattle.loading.proofs.store_rows.Given as goal

abbrev pub invariant-loop : goal.invariant-loop
invariant-loop l = Stored saved_row_in row_appended l.s l.at l.n l.initial.t l.t l.place l.counter
