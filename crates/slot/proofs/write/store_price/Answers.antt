-- `slot::write::store_price` meets its contract.
use Rattle.std.proofs.Common.{rules}
use Rattle.slot.specs.Places.{slot_at}
use Rattle.slot.proofs.Changing.{price_changed}
use Rattle.slot.proofs.write.store_price.Goals as goal

pub returns : goal.returns
returns c =
    let a = c.args in
    price_changed a.t.now (slot_at a.i) c.requires (λ k. search rules) a.p c.put.ensures c.put_rest.ensures
