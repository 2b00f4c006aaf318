-- `writing::output::order_fields` meets its contract.
use mathlib.Core.Path.{refl}
use borrow.Author.Rules.{rules}
use lib.Dec.{lit<}
use Rattle.writing.proofs.Puts.{field_then}
use Rattle.writing.proofs.Fields.{Sized}
use Rattle.writing.proofs.output.order_fields.Goals as goal
use Rattle.writing.proofs.output.order_fields.Goals.{Start}

sized : (c : Start) → Sized c.args.r
sized c = search rules

pub returns : goal.returns
returns c =
    field_then 12 c.args.r _ _ (lit< tt) (refl, (sized (goal.at.returns c).Start).reference) c.store.ensures
    (field_then 13 c.args.r _ _ (lit< tt) (refl, refl) c.byte.ensures
    (field_then 14 c.args.r _ _ (lit< tt) (refl, refl) c.filled.ensures
    (field_then 15 c.args.r _ _ (lit< tt) (refl, (sized (goal.at.returns c).Start).root) c.store-2.ensures
    (field_then 16 c.args.r _ _ (lit< tt) (refl, refl) c.byte-2.ensures
    c.price_fields.ensures))))
