-- the reader stands over the text, and the pieces before its place are counted
use Rattle.std.proofs.Common.{◌≡◌, length, ◌+◌, ◌-◌, ◌≤◌, drop}
use Rattle.piece.specs.Pieces.{pieces}
use Rattle.reader.proofs.count.Given as goal

abbrev pub invariant-loop-r : goal.invariant-loop-r
invariant-loop-r l =
    (l.r.text.now ≡ l.text) × (l.r.at ≤ length l.text) × (l.n ≤ l.r.at) × (length (pieces l.text) ≡ l.n + length (pieces (drop l.r.at l.text)))

abbrev pub decreases-loop-r : goal.decreases-loop-r
decreases-loop-r l = length l.text - l.r.at
