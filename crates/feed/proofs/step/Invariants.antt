-- `feed::step` meets its contract: at each turn, what was done and what is left to do are the step over the chunk.
use Prim.Native.Nat.{◌-◌}
use lib.ListN.{length}
use Rattle.feed.specs.Steps.{between_of, step_from}
use Rattle.feed.proofs.Turns.{Turn}
use Rattle.lookup.specs.Lent.{SameLent}
use Rattle.feed.proofs.step.Given as goal

-- the turn, over the table and the index that were lent
abbrev pub invariant-loop-used : goal.invariant-loop-used
invariant-loop-used l =
    Turn (step_from (length l.initial.out) (between_of l.initial.hold l.initial.day.table.now) l.chunk) l.chunk l.initial.day.table.now l.initial.out l.day.table.now l.hold l.out l.used l.wrote
    × SameLent l.initial.day l.day

abbrev pub decreases-loop-used : goal.decreases-loop-used
decreases-loop-used l = length l.chunk - l.used
