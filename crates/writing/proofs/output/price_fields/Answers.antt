-- `writing::output::price_fields` meets its contract.
use mathlib.Core.Path.{refl}
use lib.Dec.{lit<}
use Rattle.writing.proofs.Puts.{field_then}
use Rattle.writing.proofs.output.price_fields.Goals as goal

pub returns : goal.returns
returns c =
    field_then 17 c.args.r _ _ (lit< tt) (refl, refl) c.filled.ensures
    (field_then 18 c.args.r _ _ (lit< tt) (refl, refl) c.filled-2.ensures
    (field_then 19 c.args.r _ _ (lit< tt) (refl, refl) c.byte.ensures
    (field_then 20 c.args.r _ _ (lit< tt) (refl, refl) c.filled-3.ensures
    (field_then 21 c.args.r _ _ (lit< tt) (refl, refl) c.price.ensures
    c.trade_fields.ensures))))
