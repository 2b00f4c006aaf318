-- `table::damage::sound_slots` meets its contract: the orders of the slots passed are undamaged and seen; a slot that does not fit damages all.
use Rattle.table.proofs.Passes.{Passed}
use Rattle.table.proofs.damage.sound_slots.Given as goal

abbrev pub invariant-loop-i : goal.invariant-loop-i
invariant-loop-i l = Passed l.t l.flags l.i
