-- `writing::output::trade_fields` meets its contract.
use lib.Dec.{lit<}
use Rattle.writing.proofs.Puts.{field_then, ends, match_text, cross_text}
use Rattle.writing.proofs.output.trade_fields.Goals as goal

pub returns : goal.returns
returns c =
    field_then 22 c.args.r _ _ (lit< tt) (match_text c.args.r.event) (rw (c.is_trade-on.ensures, c.type_of.ensures, c.trade_of-trade.ensures) at c.id.ensures)
    (field_then 23 c.args.r _ _ (lit< tt) (cross_text c.args.r.event) (rw (c.is_trade-on.ensures, c.type_of.ensures, c.trade_of-trade.ensures) at c.id-2.ensures)
    (ends c.args.r _ c.store.ensures))
