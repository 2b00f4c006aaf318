-- `loading::read_front` meets its contract.
use mathlib.Core.Path.{refl}
use Rattle.loading.proofs.Whole.{no_front, front_read}
use Rattle.loading.proofs.read_front.Goals as goal

pub returns-in_err-next : goal.returns-in_err-next
returns-in_err-next c = rw c.from_residual.ensures (no_front _ _ _ c.in_err-next.ensures refl)

pub returns : goal.returns
returns c = front_read _ _ _ _ _ c.in_ok-next.ensures refl c.front_of.ensures
