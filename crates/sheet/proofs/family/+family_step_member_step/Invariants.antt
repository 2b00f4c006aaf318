-- `sheet::family`'s two steps: the measure is twice the rows left, plus 1 for the family step.
use Prim.Native.Nat.{◌+◌, ◌*◌}
use lib.ListN.{length}
use Rattle.sheet.specs.Walk.{elders_in, families_from, members_from}
use Rattle.sheet.proofs.family.+family_step_member_step.Given as goal

abbrev pub decreases-family_step : goal.decreases-family_step
decreases-family_step l = length (families_from (elders_in l.orders.now.n l.orders.now.t.now) l.from l.family) * 2 + 1

abbrev pub decreases-member_step : goal.decreases-member_step
decreases-member_step l = length (members_from (elders_in l.orders.now.n l.orders.now.t.now) l.x) * 2
