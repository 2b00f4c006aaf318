-- What a lawful record writes stands in its line field by field.
use Prim.Native.Nat.{ℕ, ◌≤◌}
use mathlib.Core.Path.{◌≡◌, refl}
use Rattle.run.specs.Runs.{part}
use Rattle.message.specs.Fields.{field_at}
use Rattle.message.specs.Rule.{writes}
use Rattle.layout.specs.Demand2.{field_held, LawfulRecord}
use Rattle.layout.specs.Line.{crlf, layout_for, line_of}
use Rattle.layout.specs.Records.{fields_of}
use Rattle.layout.specs.declared.Record.{Record}
use Rattle.layout.proofs.Lines.{exact_for}

pub field_bytes : (r : Record) → LawfulRecord r → (n : ℕ) → 1 ≤ n → n ≤ 24
    → let f = field_at (layout_for r) n in part (line_of r) f.at f.len ≡ writes f.rule f.len (field_held r n)
unfolding line_of
field_bytes r h n a b = (exact_for r).stands (fields_of r) crlf (record { count = refl; each = h.fields }) n a b
