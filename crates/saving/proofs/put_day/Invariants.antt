-- `saving::put_day` meets its contract: what is stored, and the entries that are left, give the same end.
use mathlib.Core.Path.{◌≡◌}
use lib.ListN.{length}
use Rattle.saving.proofs.Steps.{Laying}
use Rattle.saving.proofs.put_day.Given as goal

abbrev pub invariant-loop-k : goal.invariant-loop-k
invariant-loop-k l = (length l.buffer ≡ 115) × Laying l.t l.initial.out l.initial.at l.k-end l.out l.at l.k
