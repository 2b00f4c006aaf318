-- `quote_slot::write::put_quote` meets its contract.
use Rattle.std.proofs.Common.{rules}
use Rattle.slot.proofs.Runs.{opening_stored}
use Rattle.quote_slot.proofs.write.put_quote.Goals as goal

pub returns : goal.returns
returns c =
    let a = c.args in
    let q = a.q in
    let series = c.put_series.ensures in
    (opening_stored q.key q.side q.series a.at a.t.now (search rules) (search rules) (search rules) c.put_key.ensures c.byte.ensures series).stored
