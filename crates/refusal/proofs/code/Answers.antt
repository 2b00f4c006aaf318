-- `refusal::code` meets its contract: number and field are what the functions that it calls answer.
use Prim.Native.Nat.{◌+◌, ◌*◌}
use mathlib.Core.Path.{ap₂}
use Rattle.refusal.proofs.code.Goals as goal

pub returns : goal.returns
returns c = ap₂ (λ n f. n + 256 * f) c.number.ensures c.field.ensures
