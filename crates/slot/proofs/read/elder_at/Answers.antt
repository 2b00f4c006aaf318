-- `slot::read::elder_at` meets its contract.
use native.Mathlib.Omega.{arith}
use mathlib.Core.Path.{ap, sym, ◌∙◌}
use Rattle.cell.specs.Cells.{le}
use Rattle.slot.specs.Slots.{slot_width}
use Rattle.slot.specs.Places.{slot_at}
use Rattle.run.proofs.Parts.{part_part}
use Rattle.slot.proofs.read.elder_at.Goals as goal

pub returns : goal.returns
returns c =
    let start = c.args in
    c.get.ensures ∙ sym (ap le (part_part start.t.now (slot_at start.i) slot_width 49 2 (omega arith)))
