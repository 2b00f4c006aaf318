-- `loading::read_rows` meets its contract: the rows read so far stand in scratch.
use borrow.Author.Rules.{rules}
use Rattle.loading.proofs.Rows.{no_row, one_held}
use Rattle.loading.proofs.read_rows.Goals as goal

pub returns-in_err-row : goal.returns-in_err-row
returns-in_err-row c = rw c.from_residual.ensures (no_row c.loop-i.invariant (search rules) c.in_err-row.ensures)

pub loop-i-preserved : goal.loop-i-preserved
loop-i-preserved c =
    one_held c.loop-i.invariant (search rules) c.in_ok-row.ensures c.requires.n_in_bounds c.store.ensures
