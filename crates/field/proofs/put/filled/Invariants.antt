-- `field::put::filled` meets its contract: what is written from the right, and what is left to write, give the same end.
use mathlib.Core.Path.{◌≡◌}
use lib.Seq.{sets}
use Rattle.field.specs.Number.{rest as number_rest}
use Rattle.field.proofs.put.filled.Given as goal

abbrev pub invariant-loop-left : goal.invariant-loop-left
invariant-loop-left l = sets l.out l.at (number_rest l.fill l.left l.rest) ≡ sets l.initial.out l.at (number_rest l.fill l.initial.left l.initial.rest)
