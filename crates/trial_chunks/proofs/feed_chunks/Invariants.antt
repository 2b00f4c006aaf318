-- `trial_chunks::feed_chunks` is safe and ends: no chunk is empty, and the sizes are taken in turn.
use mathlib.Core.Path.{◌≡◌}
use lib.ListN.{length}
use Rattle.trial_chunks.proofs.feed_chunks.Given as goal

abbrev pub invariant-loop-turns : goal.invariant-loop-turns
invariant-loop-turns g l =
    (length l.day.table.now ≡ length l.initial.day.table.now)
    × (length l.out ≡ length l.initial.out)

abbrev pub decreases-loop-turns : goal.decreases-loop-turns
decreases-loop-turns g l = length l.rest
