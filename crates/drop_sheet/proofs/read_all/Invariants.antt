-- `drop_sheet::read_all` meets its contract: chunk after chunk, what is read is one text.
use mathlib.Core.Path.{◌≡◌}
use lib.ListN.{length}
use Rattle.std.specs.Prelude.{Ok}
use Rattle.feed.specs.Steps.{between_of}
use Rattle.sheet_run.specs.Promises.{Reads}
use Rattle.drop_sheet.specs.declared.Failure.{Failure}
use Rattle.drop_sheet.proofs.read_all.Given as goal

-- what is read, and table and buffers of the same length
abbrev pub invariant-loop : goal.invariant-loop
invariant-loop g l =
    Reads {T = Unit {0}} {E = Failure} (between_of l.initial.hold l.initial.day.table.now) (Ok tt) l.day.table.now l.hold
    × (length l.day.table.now ≡ length l.initial.day.table.now)
    × (length l.input ≡ length l.initial.input)
    × (length l.out ≡ length l.initial.out)
