-- 01, The line, and Refusals 1 to 4: reading a piece and writing a record.
use Rattle.std.specs.Prelude.{ℕ, Bool, cond, ◌&&◌, List, [], ◌∷◌, ◌++◌, ltb, eqb, length, get_or, take, drop}
use Rattle.run.specs.Runs.{same, all}
use Rattle.field.specs.Byte.{is_of}
use Rattle.field.specs.declared.Class.TheVariants.{Printable}
use Rattle.refusal.specs.Answer.{Answer, value, refused}
use Rattle.message.specs.Fields.{Field, Fields, breaks, say, read_fields, first_unlawful, write_fields}
use Rattle.layout.specs.Layout.{layout}
use Rattle.layout.specs.Records.{fields_of, record_of, type_of}
use Rattle.layout.specs.declared.Record.{Record}

-- what a piece that is not refused says
pub data Said : Type 0 where
  end_of_day : Said
  line : Record → Said

abbrev pub crlf : List ℕ
crlf = 13 ∷ 10 ∷ []

-- 01, Refusals by number: 1: 140 bytes ending in CR LF
abbrev pub is_line : List ℕ → Bool
is_line s = eqb (length s) 140 && same (drop 138 s) crlf

-- 01, Refusals by number: 2: none of the 138 bytes is outside 20 to 7E hex
abbrev pub printable : List ℕ → Bool
printable s = all (is_of Printable) (take 138 s)

-- the layout of a piece goes by its own type and denominator
abbrev pub layout_of : List ℕ → List Field
layout_of s = layout (get_or s 8 0) (get_or s 103 0)

-- 01, Refusals by number: 3: with the number of the first field
abbrev pub said_by : Fields → Answer Said
said_by (breaks n) = refused 3 n
said_by (say vs) = value (line (record_of vs))

-- 01, Order of checks: reading: 1, 2, 3
unfoldable pub read : List ℕ → Answer Said
read s =
    cond (same s crlf) (value end_of_day)
    (cond (is_line s) (cond (printable s) (said_by (read_fields (layout_of s) [] s)) (refused 2 0)) (refused 1 0))

-- the layout of a record goes by its own type and denominator
abbrev pub layout_for : Record → List Field
layout_for r = layout (type_of r.event) r.denominator

-- 138 bytes, then CR LF
unfoldable pub line_of : Record → List ℕ
line_of r = write_fields (layout_for r) (fields_of r) ++ crlf

-- the first unlawful field of a record, or 0
unfoldable pub unlawful : Record → ℕ
unlawful r = first_unlawful (layout_for r) (fields_of r)

-- 01, Order of checks: writing a record: 4 (under 140 bytes), then 3
abbrev pub write : Record → List ℕ → Answer (Unit {0})
write r out = cond (ltb (length out) 140) (refused 4 0) (cond (eqb (unlawful r) 0) (value tt) (refused 3 (unlawful r)))

-- 01, Order of checks: on success only the bytes it needs, from the front; a refusal leaves every byte
abbrev pub out_after : Answer (Unit {0}) → Record → List ℕ → List ℕ
out_after (value u) r out = line_of r ++ drop 140 out
out_after (refused n f) r out = out

-- the answer, and the buffer afterwards
abbrev pub write_into : Record → List ℕ → Answer (Unit {0}) × List ℕ
write_into r out = (write r out, out_after (write r out) r out)
