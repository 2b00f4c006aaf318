-- `slot::write::store_figures` meets its contract.
use Rattle.std.proofs.Common.{rules}
use Rattle.slot.specs.Places.{slot_at}
use Rattle.slot.proofs.Changing.{figures_changed}
use Rattle.slot.proofs.write.store_figures.Goals as goal

pub returns : goal.returns
returns c =
    let a = c.args in
    figures_changed a.t.now (slot_at a.i) c.requires (λ k. search rules) a.f c.put_figures.ensures c.put_rest.ensures
