-- `slot::write::put_terms` meets its contract.
use Rattle.std.proofs.Common.{rules}
use Rattle.slot.proofs.Runs.{terms_stored}
use Rattle.slot.proofs.write.put_terms.Goals as goal

pub returns : goal.returns
returns c =
    let a = c.args in
    terms_stored a.o a.at a.t.now (search rules) (search rules) (search rules) c.put_key.ensures c.byte.ensures c.put_series.ensures c.put.ensures
