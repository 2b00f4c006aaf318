-- `saving::put_front` meets its contract: the numbers that it writes are those of the front.
use mathlib.Core.Path.{ap, ◌∙◌}
use Rattle.saved.specs.Days.{mark_of}
use Rattle.saving.proofs.Days.{mark_said, front_there, front_put}
use Rattle.saving.proofs.put_front.Goals as goal

pub put_all-requires : goal.put_all-requires
put_all-requires c =
    front_there c.args.t.now (c.from-over.ensures ∙ mark_said _ ∙ ap mark_of c.is_over.ensures) c.count-orders.ensures c.row_count-rows.ensures c.requires.t_in_bounds

pub returns : goal.returns
returns c =
    front_put c.args.t.now (c.from-over.ensures ∙ mark_said _ ∙ ap mark_of c.is_over.ensures) c.count-orders.ensures c.row_count-rows.ensures c.put_all.ensures
