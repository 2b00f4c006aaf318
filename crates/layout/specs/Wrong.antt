-- Wrong readers and wrong writers. proofs/Refuted.antt shows that each breaks demand 2.
use Rattle.std.specs.Prelude.{ℕ, ◌-◌, ◌≤◌, ◌<◌, ◌≡◌, cond, List, eqb, length, take, drop, set, replicate}
use Rattle.refusal.specs.Answer.{Answer, value}
use Rattle.layout.specs.Demand2.{LawfulLine, LawfulRecord, field_held}
use Rattle.layout.specs.Line.{Said, line, read, line_of}
use Rattle.layout.specs.Records.{fields_of, record_of}
use Rattle.message.specs.Rule.{Value, num}
use Rattle.message.specs.Values.{one}
use Rattle.layout.specs.declared.Record.{Record}

-- ---- readers

module _ (reader : List ℕ → Answer Said) where
  -- 01, Promises: "A reader that refuses each line": no lawful line reads as a record, whatever else it answers
  abbrev pub RefusesEach : Type 0
  RefusesEach = (s : List ℕ) → LawfulLine s → (r : Record) → reader s ≡ value (line r) → ⊥

  -- "or answers with one fixed record": for each lawful line, whatever it answers for others
  abbrev pub FixedAs : Record → Type 0
  FixedAs r = (s : List ℕ) → LawfulLine s → reader s ≡ value (line r)

  -- one that answers with another record in the place of the one that the line says
  abbrev pub Changes : (Record → Record) → Type 0
  Changes other = (s : List ℕ) (r : Record) → read s ≡ value (line r) → reader s ≡ value (line (other r))

-- field n of a record made v
abbrev pub with_field : ℕ → Value → Record → Record
with_field n v r = record_of (set (fields_of r) (n - 1) v)

-- B for S and S for B
abbrev pub other_side : Record → Record
other_side r = with_field 14 (one (cond (eqb r.side 66) 83 66)) r

-- n contracts as 1,000,000 - n
abbrev pub other_contracts : Record → Record
other_contracts r = with_field 15 (num (1000000 - r.contracts)) r

-- two fields in each other's place
abbrev pub exchanged : ℕ → ℕ → Record → Record
exchanged m n r = with_field m (field_held r n) (with_field n (field_held r m) r)

-- ---- writers

module _ (writer : Record → List ℕ → Answer (Unit {0}) × List ℕ) where
  -- one that stores nothing, whatever it answers
  abbrev pub StoresNothing : Type 0
  StoresNothing = (r : Record) (out : List ℕ) → LawfulRecord r → 140 ≤ length out → (writer r out).1 ≡ out

  -- one that clears what stood behind the line
  abbrev pub ClearsRest : Type 0
  ClearsRest = (r : Record) (out : List ℕ) → LawfulRecord r → 140 ≤ length out → drop 140 (writer r out).1 ≡ replicate (length out - 140) 0

  -- one that fills a short buffer as far as it goes, whatever it answers
  abbrev pub StoresWhatFits : Type 0
  StoresWhatFits = (r : Record) (out : List ℕ) → LawfulRecord r → length out < 140 → (writer r out).1 ≡ take (length out) (line_of r)
