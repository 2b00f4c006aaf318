-- what is stored, and what is left to store, give the same end
use Rattle.std.proofs.Common.{◌+◌, ◌-◌, ◌≡◌, length}
use lib.Seq.{sets}
use Rattle.cell.specs.Cells.{le_bytes}
use Rattle.cell.proofs.put.Given as goal

abbrev pub invariant-loop-i : goal.invariant-loop-i
invariant-loop-i l =
    (length l.out ≡ length l.initial.out) × (sets l.out (l.at + l.i) (le_bytes (l.w - l.i) l.rest) ≡ sets l.initial.out l.at (le_bytes l.w l.v))
