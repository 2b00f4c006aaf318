-- A table of fields, and how a message is read and written by it.
use Rattle.std.specs.Prelude.{ℕ, ◌+◌, ◌-◌, Bool, true, cond, ◌&&◌, List, [], ◌∷◌, ◌++◌, eqb, get_or, Option, Some, None, is_some}
use Prim.Native.String.{String}
use Rattle.run.specs.Runs.{part}
use Rattle.message.specs.Rule.{Rule, verbatim, blank, Value, num, reads, writes, lawful, fits}

-- 01, The line: the columns No, Field, At, Len and Rule
pub record Field : Type 0 where
  pub no : ℕ
  pub name : String
  pub at : ℕ
  pub len : ℕ
  pub rule : Rule

abbrev pub field : ℕ → String → ℕ → ℕ → Rule → Field
field n name at len rule = record { no = n; name = name; at = at; len = len; rule = rule }

-- where a table has none
abbrev pub no_field : Field
no_field = field 0 "none" 0 0 (verbatim blank)

-- field n of a table, counted from 1
abbrev pub field_at : List Field → ℕ → Field
field_at fields n = get_or fields (n - 1) no_field

-- the field of that number
abbrev pub field_no : ℕ → List Field → Field
field_no n [] = no_field
field_no n (f ∷ fs) = cond (eqb f.no n) f (field_no n fs)

-- how many bytes the fields take
abbrev pub width : List Field → ℕ
width [] = 0
width (f ∷ fs) = f.len + width fs

-- each field is numbered one more than the one before and stands right behind it
abbrev pub placed : ℕ → ℕ → List Field → Bool
placed n at [] = true
placed n at (f ∷ fs) = eqb f.no n && eqb f.at at && placed (n + 1) (at + f.len) fs

-- what each rule allows has room in its field
abbrev pub fitting : List Field → Bool
fitting [] = true
fitting (f ∷ fs) = fits f.rule f.len && fitting fs

-- ---- reading

-- what the rule of field n reads in that field's bytes
abbrev pub got_at : List Field → List ℕ → ℕ → Option Value
got_at fields s n = reads (field_at fields n).rule (part s (field_at fields n).at (field_at fields n).len)

-- field n keeps its rule
abbrev pub keeps_at : List Field → List ℕ → ℕ → Bool
keeps_at fields s n = is_some (got_at fields s n)

-- the first field that breaks its rule, or what all fields say
pub data Fields : Type 0 where
  breaks : ℕ → Fields
  say : List Value → Fields

abbrev pub on_got : Option Value → ℕ → (Value → Fields) → Fields
on_got (Some v) n next = next v
on_got None n next = breaks n

-- the fields one after another, behind those that said vs
abbrev pub read_fields : List Field → List Value → List ℕ → Fields
read_fields [] vs s = say vs
read_fields (f ∷ fs) vs s = on_got (reads f.rule (part s f.at f.len)) f.no (λ v. read_fields fs (vs ++ (v ∷ [])) s)

-- ---- writing

-- the value of field n
abbrev pub value_at : List Value → ℕ → Value
value_at vs n = get_or vs (n - 1) (num 0)

-- that value is one that the rule of field n allows
abbrev pub holds_at : List Field → List Value → ℕ → Bool
holds_at fields vs n = lawful (field_at fields n).rule (field_at fields n).len (value_at vs n)

-- the first field whose value is unlawful, or 0
abbrev pub first_unlawful : List Field → List Value → ℕ
first_unlawful [] vs = 0
first_unlawful (f ∷ fs) [] = f.no
first_unlawful (f ∷ fs) (v ∷ vs) = cond (lawful f.rule f.len v) (first_unlawful fs vs) f.no

abbrev pub write_fields : List Field → List Value → List ℕ
write_fields [] vs = []
write_fields (f ∷ fs) [] = []
write_fields (f ∷ fs) (v ∷ vs) = writes f.rule f.len v ++ write_fields fs vs
