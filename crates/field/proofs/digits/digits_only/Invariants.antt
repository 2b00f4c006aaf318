-- `field::digits::digits_only` meets its contract: the number so far, and the rest of the digits, give the whole answer.
use mathlib.Core.Bool.{cond}
use mathlib.Core.Path.{◌≡◌}
use lib.ListN.{drop}
use Rattle.std.specs.Prelude.{None}
use Rattle.field.specs.Number.{digits_after}
use Rattle.field.proofs.Laws.{Halves}
use Rattle.field.proofs.digits.digits_only.Given as goal

abbrev pub invariant-loop-b : goal.invariant-loop-b
invariant-loop-b l = Halves l.b-index l.v × (digits_after 0 l.s ≡ cond l.good (digits_after l.v (drop l.b-index l.s)) None)
