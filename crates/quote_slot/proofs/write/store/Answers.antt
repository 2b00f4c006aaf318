-- `quote_slot::write::store` meets its contract.
use Rattle.std.proofs.Common.{rules}
use Rattle.quote_slot.specs.QuoteSlots.{row_at}
use Rattle.quote_slot.proofs.Runs.{row_stored}
use Rattle.quote_slot.proofs.write.store.Goals as goal

pub returns : goal.returns
returns c =
    let a = c.args in
    let stored = c.put-2.ensures in
    row_stored a.w (row_at a.base a.i) a.t.now (search rules) (search rules) (search rules) c.put_quote.ensures c.put.ensures stored
