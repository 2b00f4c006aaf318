-- The promises of `line::read` and `writing::write` are equations with the written rules, which have demand 2.
use Prim.Native.Nat.{ℕ}
use mathlib.Core.Path.{ap₂}
use mathlib.Core.List.{List}
use Rattle.std.specs.Prelude.{Result}
use Rattle.refusal.specs.Answer.{Answer}
use Rattle.refusal.specs.declared.Refusal.{Refusal}
use Rattle.layout.specs.declared.Record.{Record}
use Rattle.layout.proofs.Settled.{settled}
use Rattle.line.specs.declared.Said.{Said}
use Rattle.delivery.specs.Reading.{reader, writer, ReadingDelivered}

pub reading_delivered : (read : List ℕ → Result Said Refusal) (write : Record → List ℕ → (Result (Unit {0}) Refusal) × List ℕ) → ReadingDelivered read write
reading_delivered read write p q =
    (settled (reader read write) (writer read write)).1
    (record {
      reads = λ s. (p s).said;
      writes = λ r out. ap₂ (λ (a : Answer (Unit {0})) (after : List ℕ). (a, after)) (q r out).said (q r out).out;
    })
