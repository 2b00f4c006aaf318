-- `sheet_run::take` meets its contract. Each step uses a byte or more of what is left of the chunk, so the turns end.
use Prim.Native.Nat.{◌-◌}
use lib.ListN.{length}
use Rattle.feed.specs.Steps.{between_of}
use Rattle.sheet_run.proofs.Turns.{Turn}
use Rattle.lookup.specs.Lent.{SameLent}
use Rattle.sheet_run.proofs.take.Given as goal

-- the turn, over the table and the index that were lent
abbrev pub invariant-loop-used : goal.invariant-loop-used
invariant-loop-used g l =
    Turn (between_of l.initial.hold l.initial.day.table.now) l.chunk l.initial.day.table.now l.initial.out l.day.table.now l.hold l.out l.used
    × SameLent l.initial.day l.day

abbrev pub decreases-loop-used : goal.decreases-loop-used
decreases-loop-used g l = length l.chunk - l.used
