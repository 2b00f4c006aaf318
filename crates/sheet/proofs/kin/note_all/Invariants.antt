-- `sheet::kin::note_all` meets its contract: what is noted of the first i orders is what is to be noted of that many.
use mathlib.Core.Path.{◌≡◌}
use lib.ListN.{length}
use Rattle.sheet.specs.Kin.{Kin}
use Rattle.sheet.proofs.kin.note_all.Given as goal

abbrev pub invariant-loop-i : goal.invariant-loop-i
invariant-loop-i l = (length l.kin ≡ length l.initial.kin) × Kin l.i l.t l.kin
