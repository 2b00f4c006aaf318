-- `slot::write::store` meets its contract.
use Rattle.std.proofs.Common.{rules}
use Rattle.slot.specs.Places.{slot_at}
use Rattle.slot.proofs.Runs.{order_stored}
use Rattle.slot.proofs.write.store.Goals as goal

pub returns : goal.returns
returns c =
    let a = c.args in
    order_stored a.o (slot_at a.i) a.t.now (search rules) (search rules) (search rules) c.put_terms.ensures c.put.ensures c.put_figures.ensures c.put_rest.ensures
