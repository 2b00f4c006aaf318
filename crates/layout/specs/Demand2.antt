-- The tender's demand 2, in the order of its sentences, of any reader and any writer. proofs/Demand2.antt proves it of the written rules.
use Rattle.std.specs.Prelude.{ℕ, ◌≤◌, ◌<◌, ◌≡◌, Bool, true, false, List, ◌++◌, ◌⊎◌, ◌↔◌, length, drop, Option, Some}
use Rattle.refusal.specs.Answer.{Answer, value, refused}
use Rattle.message.specs.Fields.{got_at, keeps_at, value_at, holds_at}
use Rattle.message.specs.First.{First}
use Rattle.message.specs.Rule.{Value}
use Rattle.layout.specs.Line.{Said, line, end_of_day, crlf, is_line, printable, layout_of, layout_for}
use Rattle.layout.specs.Records.{fields_of}
use Rattle.layout.specs.declared.Record.{Record}

-- what the rule of field n reads in that field's bytes of a piece
abbrev pub field_in : List ℕ → ℕ → Option Value
field_in s n = got_at (layout_of s) s n

-- field n of a piece keeps its rule
abbrev pub keeps : List ℕ → ℕ → Bool
keeps s n = keeps_at (layout_of s) s n

-- what a record holds as field n
abbrev pub field_held : Record → ℕ → Value
field_held r n = value_at (fields_of r) n

-- field n of a record holds a value that its rule allows
abbrev pub holds : Record → ℕ → Bool
holds r n = holds_at (layout_for r) (fields_of r) n

-- no rule is broken
pub record LawfulLine (s : List ℕ) : Type 0 where
  pub shape : is_line s ≡ true
  pub bytes : printable s ≡ true
  pub fields : (n : ℕ) → 1 ≤ n → n ≤ 24 → keeps s n ≡ true

pub record LawfulRecord (r : Record) : Type 0 where
  pub fields : (n : ℕ) → 1 ≤ n → n ≤ 24 → holds r n ≡ true

-- a reader answers for a piece; a writer answers for a record and a buffer, and leaves the buffer as it is afterwards
pub record Demand2 (read : List ℕ → Answer Said) (write : Record → List ℕ → Answer (Unit {0}) × List ℕ) : Type 0 where
  -- "Each lawful line gives exactly one record": a piece reads as a record exactly when it is lawful
  pub lawful_reads : (s : List ℕ) → LawfulLine s ↔ ((r : Record) × (read s ≡ value (line r)))
  -- and that record holds, as each of its 24 fields, what the field's rule reads in the field's bytes
  pub says : (s : List ℕ) (r : Record) → read s ≡ value (line r) → (n : ℕ) → 1 ≤ n → n ≤ 24 → field_in s n ≡ Some (field_held r n)
  -- "each lawful record exactly that line back": what is read is lawful, and with room is written as the very line; behind it stays what stood there
  pub read_back : (s : List ℕ) (r : Record) → read s ≡ value (line r)
      → LawfulRecord r × ((out : List ℕ) → 140 ≤ length out → write r out ≡ (value tt, s ++ drop 140 out))
  -- with room a record is written exactly when it is lawful, and then as a line that reads as that record
  pub lawful_writes : (r : Record) (out : List ℕ) → 140 ≤ length out → LawfulRecord r ↔ ((write r out).0 ≡ value tt)
  pub written_reads : (r : Record) (out : List ℕ) → LawfulRecord r → 140 ≤ length out
      → (s : List ℕ) × (write r out ≡ (value tt, s ++ drop 140 out)) × (read s ≡ value (line r))
  -- so lawful lines and lawful records are one to one
  pub one_line : (s t : List ℕ) (r : Record) → read s ≡ value (line r) → read t ≡ value (line r) → s ≡ t
  pub one_record : (r q : Record) (out : List ℕ) → LawfulRecord r → LawfulRecord q → 140 ≤ length out → write r out ≡ write q out → r ≡ q
  -- end of day is an answer of its own
  pub end_reads : (s : List ℕ) → (read s ≡ value end_of_day) ↔ (s ≡ crlf)
  -- "and everything else is refused by the first rule it breaks": reading 1, 2, 3
  pub no_line : (s : List ℕ) → (read s ≡ refused 1 0) ↔ ((s ≡ crlf → ⊥) × (is_line s ≡ false))
  pub bad_byte : (s : List ℕ) → (read s ≡ refused 2 0) ↔ ((is_line s ≡ true) × (printable s ≡ false))
  pub bad_field : (s : List ℕ) (n : ℕ) → (read s ≡ refused 3 n) ↔ ((is_line s ≡ true) × (printable s ≡ true) × First 24 (keeps s) n)
  pub other_reads : (s : List ℕ) (n f : ℕ) → read s ≡ refused n f → ((n ≡ 1) × (f ≡ 0)) ⊎ ((n ≡ 2) × (f ≡ 0)) ⊎ (n ≡ 3)
  -- writing 4, then 3
  pub no_room : (r : Record) (out : List ℕ) → ((write r out).0 ≡ refused 4 0) ↔ (length out < 140)
  pub bad_value : (r : Record) (out : List ℕ) (n : ℕ) → ((write r out).0 ≡ refused 3 n) ↔ ((140 ≤ length out) × First 24 (holds r) n)
  pub other_writes : (r : Record) (out : List ℕ) (n f : ℕ) → (write r out).0 ≡ refused n f → ((n ≡ 4) × (f ≡ 0)) ⊎ (n ≡ 3)
  -- a refusal leaves every byte of the buffer
  pub refused_keeps : (r : Record) (out : List ℕ) (n f : ℕ) → (write r out).0 ≡ refused n f → (write r out).1 ≡ out
