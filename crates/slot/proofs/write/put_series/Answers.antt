-- `slot::write::put_series` meets its contract.
use Rattle.std.proofs.Common.{rules}
use Rattle.slot.proofs.Runs.{series_stored}
use Rattle.slot.proofs.write.put_series.Goals as goal

pub returns : goal.returns
returns c =
    let a = c.args in
    series_stored a.s a.at a.t.now (search rules) c.store.ensures c.byte.ensures c.put.ensures c.put-2.ensures c.byte-2.ensures c.put-3.ensures
