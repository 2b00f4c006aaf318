-- `layout::rules::id` meets its contract: nine digits at the most are no larger than an id may be.
use mathlib.Core.Path.{sym, ◌∙◌}
use lib.ListN.{length}
use Rattle.field.proofs.Laws.{pow10_mono}
use Rattle.field.proofs.Returns.{width_bounds}
use Rattle.layout.proofs.ByType.{id_is}
use Rattle.layout.proofs.rules.id.Goals as goal

pub returns-then-trade : goal.returns-then-trade
returns-then-trade c =
    let s = c.args.s.now in
    c.spaced.ensures ∙ rw (c.if-trade.true, id_is) (sym (width_bounds s 999999999 (pow10_mono (length s) 9 c.requires)))
