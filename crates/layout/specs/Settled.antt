-- Demand 2 leaves nothing open: what has it answers every input as the written rules do, and whatever does so has it. proofs/Settled.antt proves it.
use Rattle.std.specs.Prelude.{ℕ, ◌≡◌, List, ◌↔◌}
use Rattle.refusal.specs.Answer.{Answer}
use Rattle.layout.specs.Demand2.{Demand2}
use Rattle.layout.specs.Line.{Said, read, write_into}
use Rattle.layout.specs.declared.Record.{Record}

module _ (reader : List ℕ → Answer Said) (writer : Record → List ℕ → Answer (Unit {0}) × List ℕ) where
  -- the answer for every piece, and for every record and buffer the answer and each byte afterwards, as 01 has them
  pub record AsWritten : Type 0 where
    pub reads : (s : List ℕ) → reader s ≡ read s
    pub writes : (r : Record) (out : List ℕ) → writer r out ≡ write_into r out

  abbrev pub Settled : Type 0
  Settled = Demand2 reader writer ↔ AsWritten
