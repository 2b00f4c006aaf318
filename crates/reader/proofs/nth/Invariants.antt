-- the reader stands over the text, where the piece with the number starts
use Rattle.std.proofs.Common.{◌≡◌}
use Rattle.reader.specs.Numbering.{start_of}
use Rattle.reader.proofs.nth.Given as goal

abbrev pub invariant-loop : goal.invariant-loop
invariant-loop l = (l.r.text ≡ l.initial.r.text) × (l.r.at ≡ start_of l.counter l.text)
