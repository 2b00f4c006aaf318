-- The tender's demand 2 of what is delivered: whatever keeps the promises of `line::read` and `writing::write` has it. proofs/Reading.antt proves it.
use Rattle.std.specs.Prelude.{ℕ, List, Result}
use Rattle.refusal.specs.Answer.{Answer, answer_by, answer_of}
use Rattle.refusal.specs.declared.Refusal.{Refusal}
use Rattle.layout.specs.Demand2.{Demand2}
use Rattle.layout.specs.Line.{Said as Line-Said}
use Rattle.layout.specs.declared.Record.{Record}
use Rattle.line.specs.Promises.{Read, said_of}
use Rattle.line.specs.declared.Said.{Said}
use Rattle.writing.specs.Promises.{Write}

module _ (read : List ℕ → Result Said Refusal) (write : Record → List ℕ → (Result (Unit {0}) Refusal) × List ℕ) where
  -- what is answered, in the paper's terms
  abbrev pub reader : List ℕ → Answer Line-Said
  reader s = answer_by said_of (read s)

  -- what is answered, and the buffer afterwards
  abbrev pub writer : Record → List ℕ → Answer (Unit {0}) × List ℕ
  writer r out = (answer_of (write r out).0, (write r out).1)

  abbrev pub ReadingDelivered : Type 0
  ReadingDelivered =
      ((s : List ℕ) → Read s (read s))
      → ((r : Record) (out : List ℕ) → Write r out (write r out).0 (write r out).1)
      → Demand2 reader writer
