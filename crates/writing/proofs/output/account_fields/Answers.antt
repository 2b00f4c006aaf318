-- `writing::output::account_fields` meets its contract.
use mathlib.Core.Path.{refl}
use borrow.Author.Rules.{rules}
use lib.Dec.{lit<}
use Rattle.writing.proofs.Puts.{field_then}
use Rattle.writing.proofs.Fields.{Sized}
use Rattle.writing.proofs.output.account_fields.Goals as goal
use Rattle.writing.proofs.output.account_fields.Goals.{Start}

sized : (c : Start) → Sized c.args.r
sized c = search rules

pub returns : goal.returns
returns c =
    field_then 6 c.args.r _ _ (lit< tt) (refl, (sized (goal.at.returns c).Start).account) c.store.ensures
    (field_then 7 c.args.r _ _ (lit< tt) (refl, (sized (goal.at.returns c).Start).member) c.store-2.ensures
    (field_then 8 c.args.r _ _ (lit< tt) (refl, (sized (goal.at.returns c).Start).clearing) c.store-3.ensures
    (field_then 9 c.args.r _ _ (lit< tt) (refl, (sized (goal.at.returns c).Start).source) c.store-4.ensures
    (field_then 10 c.args.r _ _ (lit< tt) (refl, (sized (goal.at.returns c).Start).token) c.store-5.ensures
    (field_then 11 c.args.r _ _ (lit< tt) (refl, (sized (goal.at.returns c).Start).replaced) c.store-6.ensures
    c.order_fields.ensures)))))
