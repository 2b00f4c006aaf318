-- What the functions that check and write a record do with a group of its fields. What the entry promises is in specs/Promises.antt.
use Rattle.std.specs.Prelude.{ℕ, ◌-◌, Bool, true, false, cond, List, ◌++◌, eqb, take, drop, replicate, Result, Ok, Err}
use Rattle.field.specs.Number.{filled}
use Rattle.refusal.specs.declared.Refusal.{Refusal}
use Rattle.refusal.specs.declared.Refusal.TheVariants.{Field}
use Rattle.message.specs.Fields.{first_unlawful, write_fields}
use Rattle.layout.specs.Line.{crlf, layout_for}
use Rattle.layout.specs.Records.{fields_of}
use Rattle.layout.specs.declared.Record.{Record}

-- an id as it is written
abbrev pub id_text : Bool → ℕ → List ℕ
id_text true v = filled 32 9 v
id_text false v = replicate 9 32

-- no unlawful field, or the refusal that names the first
abbrev pub check_of : ℕ → Result (Unit {0}) Refusal
check_of n = cond (eqb n 0) (Ok tt) (Err (Field n))

-- of fields k + 1 to m
abbrev pub check_group : ℕ → ℕ → Record → Result (Unit {0}) Refusal
check_group k m r = check_of (first_unlawful (take (m - k) (drop k (layout_for r))) (take (m - k) (drop k (fields_of r))))

-- the bytes of a line from field k + 1 on
unfoldable pub line_from : ℕ → Record → List ℕ
line_from k r = write_fields (drop k (layout_for r)) (drop k (fields_of r)) ++ crlf
