-- `entry::write::put_series` meets its contract.
use borrow.Author.Rules.{rules}
use Rattle.entry.proofs.Stores.{series_stored}
use Rattle.entry.proofs.write.put_series.Goals as goal

pub returns : goal.returns
returns c =
    let a = c.args in
    series_stored a.s a.at a.out.now (search rules) c.store.ensures c.byte.ensures c.put_strike.ensures
