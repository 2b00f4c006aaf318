-- The rows of a record, counted from 0, with their values and their bytes; and the lengths of its arrays.
use Prim.Native.Nat.{ℕ}
use mathlib.Core.Path.{◌≡◌}
use mathlib.Core.Bool.{Bool}
use mathlib.Core.List.{List}
use lib.ListN.{length, get_or}
use Rattle.message.specs.Fields.{Field, no_field}
use Rattle.message.specs.Rule.{Value, num, lawful, writes}
use Rattle.layout.specs.Line.{layout_for}
use Rattle.layout.specs.Records.{fields_of}
use Rattle.layout.specs.declared.Record.{Record}

abbrev pub field_for : Record → ℕ → Field
field_for r k = get_or (layout_for r) k no_field

abbrev pub value_for : Record → ℕ → Value
value_for r k = get_or (fields_of r) k (num 0)

abbrev pub lawful_at : Record → ℕ → Bool
lawful_at r k = lawful (field_for r k).rule (field_for r k).len (value_for r k)

abbrev pub text_for : Record → ℕ → List ℕ
text_for r k = writes (field_for r k).rule (field_for r k).len (value_for r k)

-- a function that is given a record knows so where it starts
pub record Sized (r : Record) : Type 0 where
  pub firm : length r.firm ≡ 4
  pub account : length r.account ≡ 4
  pub member : length r.member ≡ 5
  pub clearing : length r.clearing ≡ 5
  pub source : length r.source ≡ 6
  pub token : length r.token ≡ 20
  pub replaced : length r.replaced ≡ 20
  pub reference : length r.reference ≡ 9
  pub root : length r.root ≡ 6
