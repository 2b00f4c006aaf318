-- `field::put::price` meets its contract.
use Rattle.field.proofs.Stores.{price_stores}
use Rattle.field.proofs.put.price.Goals as goal

pub returns : goal.returns
returns c = let a = c.args in price_stores a.out.now _ _ a.at a.width a.v c.filled.ensures c.filled-2.ensures
