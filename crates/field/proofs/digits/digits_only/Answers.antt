-- `field::digits::digits_only` meets its contract: nineteen digits at the most fit.
use native.Mathlib.Omega.{arith}
use borrow.Author.Rules.{rules}
use Rattle.field.proofs.Returns.{below_cap}
use Rattle.field.proofs.digits.digits_only.Goals as goal

pub overflow_mul-v : goal.overflow_mul-v
overflow_mul-v c = let l = c.loop-b in omega (arith, below_cap l.b-index l.v l.invariant.0 (search rules))

pub overflow_add-v : goal.overflow_add-v
overflow_add-v c = let l = c.loop-b in omega (arith, below_cap l.b-index l.v l.invariant.0 (search rules))
