-- `writing::output::event_fields` meets its contract.
use mathlib.Core.Path.{refl}
use borrow.Author.Rules.{rules}
use lib.Dec.{lit<}
use Rattle.writing.proofs.Puts.{field_then}
use Rattle.record.proofs.Events.{liquidity_text}
use Rattle.writing.proofs.Fields.{Sized}
use Rattle.writing.proofs.output.event_fields.Goals as goal
use Rattle.writing.proofs.output.event_fields.Goals.{Start}

sized : (c : Start) → Sized c.args.r
sized c = search rules

pub returns : goal.returns
returns c =
    field_then 0 c.args.r _ _ (lit< tt) (refl, refl) c.filled.ensures
    (field_then 1 c.args.r _ _ (lit< tt) (refl, refl) (rw c.type_of.ensures at c.byte.ensures)
    (field_then 2 c.args.r _ _ (lit< tt) (refl, (sized (goal.at.returns c).Start).firm) c.store.ensures
    (field_then 3 c.args.r _ _ (lit< tt) (refl, refl) c.byte-2.ensures
    (field_then 4 c.args.r _ _ (lit< tt) (refl, refl) c.byte-3.ensures
    (field_then 5 c.args.r _ _ (lit< tt) (liquidity_text c.args.r.event, refl) (rw c.trade_of-trade.ensures at c.byte-4.ensures)
    c.account_fields.ensures)))))
