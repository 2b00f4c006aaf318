-- `row::unpadded` meets its contract: nothing but padding stands behind what is left.
use mathlib.Core.Path.{◌≡◌}
use lib.ListN.{length}
use Rattle.row.specs.Texts.{trimmed}
use Rattle.row.proofs.unpadded.Given as goal

abbrev pub invariant-loop-last : goal.invariant-loop-last
invariant-loop-last l = trimmed l.s ≡ trimmed l.left

abbrev pub decreases-loop-last : goal.decreases-loop-last
decreases-loop-last l = length l.left
