-- `saving::fits` meets its contract: the space that is left decides as the whole of it does.
use mathlib.Core.Path.{◌≡◌}
use lib.ListN.{length}
use Rattle.saving.proofs.Steps.{Measuring}
use Rattle.saving.proofs.fits.Given as goal

abbrev pub invariant-loop-i : goal.invariant-loop-i
invariant-loop-i l = (length l.buffer ≡ 115) × Measuring l.t l.space l.i-end l.left l.i
