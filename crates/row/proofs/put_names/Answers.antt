-- `row::put_names` meets its contract: two columns and an LF; the part of the Token that is lent is all but its padding.
use mathlib.Core.Path.{ap}
use lib.ListN.{length}
use Rattle.row.proofs.Puts.{names_put}
use Rattle.row.proofs.put_names.Goals as goal

pub returns : goal.returns
returns c =
    let a = c.args in
    names_put a.source.now a.token.now a.out.now _ _ _ _ _ a.at _ (ap length c.unpadded-name.ensures) c.store.ensures c.store-2.ensures c.store-3.ensures
    (rw c.unpadded-name.ensures at c.store-4.ensures) c.store-5.ensures
