-- `sheet::family::rows` meets its contract: stretch after stretch, until so many rows are written or none is left.
use native.Mathlib.Omega.{arith}
use Rattle.sheet.proofs.Joining.{keeps_length}
use Rattle.sheet.proofs.Stretches.{going_inside, going_on, going_room}
use Rattle.sheet.proofs.family.rows.Goals as goal

pub member_step-done-requires-clause-x_in_bounds : goal.member_step-done-requires-clause-x_in_bounds
member_step-done-requires-clause-x_in_bounds c = going_room c.loop-left.invariant c.requires.first_in_bounds c.min-some.result (omega arith) c.in-Some.is

pub overflow_add-wrote : goal.overflow_add-wrote
overflow_add-wrote c =
    let g = going_on c.loop-left.invariant c.requires.first_in_bounds c.min-some.result (omega arith) c.in-Some.is c.member_step-done.ensures in
    omega (arith, going_inside g c.requires.first_in_bounds, keeps_length g.written, c.well_formed)

pub loop-left-preserved : goal.loop-left-preserved
loop-left-preserved c = going_on c.loop-left.invariant c.requires.first_in_bounds c.min-some.result (omega arith) c.in-Some.is c.member_step-done.ensures
