-- `say::adler` is safe: both halves of the sum stay below the modulus.
use Prim.Native.Nat.{◌<◌}
use Rattle.say.proofs.adler.Given as goal

abbrev pub invariant-loop-x : goal.invariant-loop-x
invariant-loop-x l = (l.a < 65521) × (l.b < 65521)
