-- What reading and writing by a table of fields say, of any table whose fields are placed one behind another and whose rules fit. proofs/Exact.antt
-- proves it.
use Rattle.std.specs.Prelude.{ℕ, ◌≤◌, ◌≡◌, true, List, [], ◌++◌, ◌↔◌, length, drop, Some}
use Rattle.run.specs.Runs.{part, all}
use Rattle.field.specs.Byte.{is_of}
use Rattle.field.specs.declared.Class.TheVariants.{Printable}
use Rattle.message.specs.Fields.{Field, field_at, width, got_at, keeps_at, breaks, say, read_fields, value_at, holds_at, first_unlawful, write_fields}
use Rattle.message.specs.First.{Every, First}
use Rattle.message.specs.Rule.{Value, writes}

-- a value for each field, each one that the field's rule allows
pub record LawfulValues (fields : List Field) (vs : List Value) : Type 0 where
  pub count : length vs ≡ length fields
  pub each : Every (length fields) (holds_at fields vs)

pub record Exact (fields : List Field) : Type 0 where
  -- reading breaks off at the first field that breaks its rule
  pub first_broken_lem : (s : List ℕ) (n : ℕ) → (read_fields fields [] s ≡ breaks n) ↔ First (length fields) (keeps_at fields s) n
  -- where none does, it says as each field what the field's rule reads in the field's bytes
  pub none_broken : (s : List ℕ) → Every (length fields) (keeps_at fields s) ↔ ((vs : List Value) × (read_fields fields [] s ≡ say vs))
  pub says : (s : List ℕ) (vs : List Value) → read_fields fields [] s ≡ say vs
      → (n : ℕ) → 1 ≤ n → n ≤ length fields → got_at fields s n ≡ Some (value_at vs n)
  -- what is read is lawful and is written as the very bytes
  pub read_lawful : (s : List ℕ) (vs : List Value) → read_fields fields [] s ≡ say vs → width fields ≤ length s → LawfulValues fields vs
  pub read_written : (s : List ℕ) (vs : List Value) → read_fields fields [] s ≡ say vs → width fields ≤ length s
      → write_fields fields vs ++ drop (width fields) s ≡ s
  -- writing asks for the first field whose value is unlawful
  pub first_unlawful_lem : (vs : List Value) (n : ℕ) → length vs ≡ length fields → 1 ≤ n
      → (first_unlawful fields vs ≡ n) ↔ First (length fields) (holds_at fields vs) n
  pub none_unlawful : (vs : List Value) → length vs ≡ length fields → (first_unlawful fields vs ≡ 0) ↔ LawfulValues fields vs
  -- what is lawful is written in the table's width, in printable bytes, and reads back whatever stands behind it
  pub wide : (vs : List Value) → LawfulValues fields vs → length (write_fields fields vs) ≡ width fields
  pub printable : (vs : List Value) → LawfulValues fields vs → all (is_of Printable) (write_fields fields vs) ≡ true
  pub reads_back : (vs : List Value) (after : List ℕ) → LawfulValues fields vs → read_fields fields [] (write_fields fields vs ++ after) ≡ say vs
  -- each value in its field's bytes
  pub stands : (vs : List Value) (after : List ℕ) → LawfulValues fields vs → (n : ℕ) → 1 ≤ n → n ≤ length fields
      → let f = field_at fields n in part (write_fields fields vs ++ after) f.at f.len ≡ writes f.rule f.len (value_at vs n)
  -- so messages and lawful values are one to one
  pub one_message : (s t : List ℕ) (vs : List Value) → length s ≡ width fields → length t ≡ width fields
      → read_fields fields [] s ≡ say vs → read_fields fields [] t ≡ say vs → s ≡ t
  pub one_meaning : (vs us : List Value) → LawfulValues fields vs → LawfulValues fields us → write_fields fields vs ≡ write_fields fields us → vs ≡ us
