-- `table::damage::sound_slots` meets its contract: the orders of the slots passed are undamaged and seen; a slot that does not fit damages all.
use mathlib.Core.Bool.{not}
use mathlib.Core.Path.{refl, ap}
use native.Mathlib.Omega.{arith}
use Rattle.table.proofs.Passes.{place_inside, elder_inside, none_passed, all_passed, one_passed, slot_stops, elder_stops}
use Rattle.table.proofs.Answers.{refuted, upheld}
use Rattle.table.proofs.Limits.{slot_inside}
use Rattle.table.proofs.damage.sound_slots.Goals as goal

pub loop-i-init : goal.loop-i-init
loop-i-init c = none_passed _ _ refl

pub order_at-o-requires : goal.order_at-o-requires
order_at-o-requires c = slot_inside _ c.loop-i.i (omega arith)

pub sound_slot-requires : goal.sound_slot-requires
sound_slot-requires c = slot_inside _ c.loop-i.i (omega arith)

pub returns-then-not-sound_slot : goal.returns-then-not-sound_slot
returns-then-not-sound_slot c =
    slot_stops c.loop-i.invariant (omega arith) c.order_at-o.ensures
    (refuted _ _ c.sound_slot.ensures (ap not c.if-not-sound_slot.true))

pub follows-requires : goal.follows-requires
follows-requires c =
    let inside = place_inside c.loop-i.invariant (omega arith) c.order_at-o.ensures (omega arith) in
    omega arith

pub returns-then-not-follows : goal.returns-then-not-follows
returns-then-not-follows c =
    elder_stops c.loop-i.invariant (omega arith) c.order_at-o.ensures
    (refuted _ _ c.follows.ensures (ap not c.if-not-follows.true))

pub pass-requires : goal.pass-requires
pass-requires c =
    let passed = c.loop-i.invariant in
    let its = c.order_at-o.ensures in
    record { e_bound = elder_inside passed (omega arith) its (omega arith) (upheld _ _ c.follows.ensures (ap not c.if-not-follows.false)); i_bound = place_inside passed (omega arith) its (omega arith) }

pub loop-i-preserved : goal.loop-i-preserved
loop-i-preserved c =
    one_passed c.loop-i.invariant (omega arith) c.order_at-o.ensures (omega arith)
    (upheld _ _ c.sound_slot.ensures (ap not c.if-not-sound_slot.false))
    (upheld _ _ c.follows.ensures (ap not c.if-not-follows.false))
    c.pass.ensures

pub returns : goal.returns
returns c = all_passed _ _ c.loop-i.i (omega arith) c.loop-i.invariant
