-- `saving::fits` meets its contract: the space that is left decides as the whole of it does.
use native.Mathlib.Omega.{arith}
use mathlib.Core.Path.{◌≡◌}
use borrow.Author.Rules.{rules}
use lib.ListN.{length}
use Rattle.saving.proofs.Bounds.{front_room}
use Rattle.saving.proofs.Steps.{measure_first, measure_next, measured, front_too_long, entry_too_long}
use Rattle.saving.proofs.fits.Goals as goal

pub put_front-front-requires-clause-t_in_bounds : goal.put_front-front-requires-clause-t_in_bounds
put_front-front-requires-clause-t_in_bounds c = omega (arith, front_room c.args.t.now)

pub returns-then-space-front : goal.returns-then-space-front
returns-then-space-front c =
    front_too_long c.args.t.now c.put_front-front.ensures.next c.if-space-front.true

pub loop-i-init : goal.loop-i-init
loop-i-init c =
    let room : length c.put_front-front.new.out ≡ 115 = search rules in
    (room, measure_first c.args.t.now c.put_front-front.ensures.next c.entries-i-end.ensures c.if-space-front.false)

pub returns-then-left-long : goal.returns-then-left-long
returns-then-left-long c =
    entry_too_long c.loop-i.invariant.1 c.loop-i-test.true c.put_entry-long.ensures.next c.if-left-long.true

pub loop-i-preserved : goal.loop-i-preserved
loop-i-preserved c =
    let room : length c.put_entry-long.new.buffer ≡ 115 = search rules in
    (room, measure_next c.loop-i.invariant.1 c.loop-i-test.true c.put_entry-long.ensures.next c.if-left-long.false)

pub returns : goal.returns
returns c = measured c.loop-i.invariant.1 c.loop-i-test.false
