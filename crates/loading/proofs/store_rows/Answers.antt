-- `loading::store_rows` meets its contract: the rows read so far, and no others, are put behind those of the table.
use borrow.Author.Rules.{rules}
use Rattle.saved.specs.Entries.{saved_row_in}
use Rattle.saved.proofs.Savable.{row_inside}
use Rattle.table.specs.Changes.{row_appended}
use Rattle.table.proofs.RowHolding.{length_row_appended}
use Rattle.loading.proofs.Storing.{none_stored, all_stored, stopped, one_stored, row_free}
use Rattle.loading.proofs.store_rows.Goals as goal

pub loop-init : goal.loop-init
loop-init c = none_stored saved_row_in row_appended c.args.s.now c.args.at c.args.n c.args.t.now c.requires.at_in_bounds

pub returns-in_err-row : goal.returns-in_err-row
returns-in_err-row c =
    rw c.from_residual.ensures (stopped saved_row_in row_appended c.loop.invariant (search rules) c.in_err-row.ensures)

pub append_row-requires : goal.append_row-requires
append_row-requires c = let both = row_free c.loop.invariant (search rules) c.requires.nonzero c.requires.n_bound in
    record { row_inside = both.0; t_bound = both.1 }

pub loop-preserved : goal.loop-preserved
loop-preserved c =
    one_stored saved_row_in row_appended c.loop.invariant row_inside length_row_appended (search rules) c.in_ok-row.ensures c.append_row.ensures

pub returns : goal.returns
returns c = all_stored saved_row_in row_appended c.loop.invariant (search rules)
