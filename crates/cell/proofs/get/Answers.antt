-- `cell::get` meets its contract: the number so far is what the bytes read so far say.
use Rattle.std.proofs.Common.{◌+◌, ◌-◌, arith}
use Rattle.cell.proofs.Loops.{get_first, get_next, get_room}
use Rattle.cell.proofs.get.Goals as goal

pub loop-i-init : goal.loop-i-init
loop-i-init c = get_first c.args.s.now c.args.at c.args.w

pub overflow_mul-v : goal.overflow_mul-v
overflow_mul-v c = let room = get_room c.loop-i.invariant (omega arith) c.requires.w_bound in omega arith

pub overflow_add-v : goal.overflow_add-v
overflow_add-v c =
    let room = get_room c.loop-i.invariant (omega arith) c.requires.w_bound in
    let byte = c.type_inv.s (c.args.at + (c.loop-i.i - 1)) in
    omega arith

pub loop-i-preserved : goal.loop-i-preserved
loop-i-preserved c =
    let byte = c.type_inv.s (c.args.at + (c.loop-i.i - 1)) in
    rw c.from.ensures (get_next c.loop-i.invariant c.requires.w_in_bounds (omega arith) (omega arith) (omega arith))
