-- A lawful line says a lawful record that writes to the very bytes; a lawful record writes a lawful line that says it.
use Rattle.std.specs.Prelude.{Some}
use Prim.Native.Nat.{ℕ, ◌≤◌}
use native.Mathlib.Nat.{add-zero}
use native.Mathlib.Omega.{arith}
use mathlib.Core.Path.{◌≡◌, refl, sym, ap, ap₂, subst, ◌∙◌}
use mathlib.Core.Bool.{Bool, true, false, cond, false≢true}
use mathlib.Core.List.{List, [], ◌∷◌, ◌++◌}
use borrow.Author.Tests.{eqb-true}
use lib.Dec.{eqb}
use lib.ListN.{length, get_or, take, drop, length-append}
use lib.Seq.{take_at, drop_at, get_or-drop}
use Rattle.run.specs.Runs.{part, same, all, member}
use Rattle.field.specs.Byte.{is_of}
use Rattle.field.specs.declared.Class.TheVariants.{Printable}
use Rattle.message.specs.Exact.{LawfulValues, Exact}
use Rattle.message.specs.Fields.{Field, placed, fitting, say, read_fields, write_fields}
use Rattle.message.specs.Rule.{Rule, code, verbatim, text, blank, Value, reads, fits}
use Rattle.message.specs.Values.{run_of, byte_at}
use Rattle.layout.specs.Demand2.{LawfulLine, LawfulRecord}
use Rattle.layout.specs.Layout.{layout, types, liquidities, denominators, is_trade, is_replace, id_number}
use Rattle.layout.specs.Line.{crlf, is_line, printable, layout_of, layout_for, line_of}
use Rattle.layout.specs.Records.{type_of, fields_of, record_of}
use Rattle.layout.specs.declared.Record.{Record}
use Rattle.run.proofs.Tests.{both}
use Rattle.run.proofs.Sameness.{same_true}
use Rattle.message.proofs.Exact.{exact, lawful_from}
use Rattle.message.proofs.Rules.{run_some}
use Rattle.layout.proofs.Values.{fields_record}

-- ---- the table is one whose fields are placed one behind another and whose rules fit

fits_either : (t : Bool) (a b : Rule) (w : ℕ) → fits a w ≡ true → fits b w ≡ true → fits (cond t a b) w ≡ true
fits_either true a b w x y = x
fits_either false a b w x y = y

placed_layout : (t d : ℕ) → placed 1 0 (layout t d) ≡ true
placed_layout t d = refl

fitting_layout : (t d : ℕ) → fitting (layout t d) ≡ true
fitting_layout t d = rw (
  fits_either (is_trade t) (code liquidities) (verbatim blank) 1 refl refl,
  fits_either (is_replace t) (verbatim text) (verbatim blank) 20 refl refl,
  fits_either (is_trade t) id_number (verbatim blank) 9 refl refl,
)

exact_layout : (t d : ℕ) → Exact (layout t d)
exact_layout t d = exact (layout t d) (placed_layout t d) (fitting_layout t d)

pub exact_of : (s : List ℕ) → Exact (layout_of s)
exact_of s = exact_layout (get_or s 8 0) (get_or s 103 0)

pub exact_for : (r : Record) → Exact (layout_for r)
exact_for r = exact_layout (type_of r.event) r.denominator

-- ---- the codes by which a layout goes

code_first : (codes l : List ℕ) (v : Value) → reads (code codes) (take 1 l) ≡ Some v
    → (get_or (run_of v) 0 0 ≡ get_or l 0 0) × (member (get_or l 0 0) codes ≡ true)
code_first codes [] v e = absurd (false≢true (run_some false [] v e).1)
code_first codes (b ∷ l) v e = let g = run_some (member b codes) (b ∷ []) v e in rw g.0 (refl, g.1)

code_at : (codes s : List ℕ) (at : ℕ) (v : Value) → reads (code codes) (part s at 1) ≡ Some v
    → (get_or (run_of v) 0 0 ≡ get_or s at 0) × (member (get_or s at 0) codes ≡ true)
code_at codes s at v e =
    let q : get_or (drop at s) 0 0 ≡ get_or s at 0 = get_or-drop at s 0 0 ∙ rw add-zero in
    rw q at (code_first codes (drop at s) v e)

-- a piece of which a layout says values says its own bytes 8 and 103 there, and the former is a type
module _ (t d : ℕ) (s : List ℕ) (vs : List Value) (e : read_fields (layout t d) [] s ≡ say vs) where
  type_said : (byte_at vs 1 ≡ get_or s 8 0) × (member (get_or s 8 0) types ≡ true)
  type_said = code_at types s 8 (get_or vs 1 _) ((exact_layout t d).says s vs e 2 (omega arith) (omega arith))

  denominator_said : byte_at vs 19 ≡ get_or s 103 0
  denominator_said = (code_at denominators s 103 (get_or vs 19 _) ((exact_layout t d).says s vs e 20 (omega arith) (omega arith))).0

  -- so the layout of that piece goes by the codes that it says
  own_layout : layout_of s ≡ layout (byte_at vs 1) (byte_at vs 19)
  own_layout = ap₂ layout (sym type_said.0) (sym denominator_said)

-- ---- pieces

pub line_length : (s : List ℕ) → is_line s ≡ true → length s ≡ 140
line_length s l = eqb-true (length s) 140 (both (eqb (length s) 140) (same (drop 138 s) crlf) l).0

line_end : (s : List ℕ) → is_line s ≡ true → drop 138 s ≡ crlf
line_end s l = same_true (drop 138 s) crlf (both (eqb (length s) 140) (same (drop 138 s) crlf) l).1

line_room : (s : List ℕ) → is_line s ≡ true → 138 ≤ length s
line_room s l = omega (arith, line_length s l)

pub other_than : (s : List ℕ) → (s ≡ crlf → ⊥) → same s crlf ≡ false
other_than s h = go (same s crlf) refl
  where
    go : (t : Bool) → same s crlf ≡ t → t ≡ false
    go true e = absurd (h (same_true s crlf e))
    go false e = refl

pub line_other : (s : List ℕ) → is_line s ≡ true → same s crlf ≡ false
line_other s l = other_than s (λ e. absurd (omega (arith, line_length s l, ap length e)))

line_tests : (w : List ℕ) → length w ≡ 138 → all (is_of Printable) w ≡ true → (is_line (w ++ crlf) ≡ true) × (printable (w ++ crlf) ≡ true)
line_tests w n p =
    let long : length (w ++ crlf) ≡ 140 = omega (arith, length-append w crlf) in
    (rw (long, drop_at w crlf 138 n), rw (take_at w crlf 138 n) p)

-- ---- from a line to its record and back

-- a piece says a record: as each field, what the record holds there
abbrev pub Says : List ℕ → Record → Type 0
Says s r = read_fields (layout_of s) [] s ≡ say (fields_of r)

-- what the fields of a line say is what a record holds
pub line_says : (s : List ℕ) (vs : List Value) → is_line s ≡ true → read_fields (layout_of s) [] s ≡ say vs → Says s (record_of vs)
line_says s vs l e =
    let t = get_or s 8 0 in
    let d = get_or s 103 0 in
    let own = type_said t d s vs e in
    let law = (exact_of s).read_lawful s vs e (line_room s l) in
    let from = lawful_from (layout t d) (placed_layout t d) (fitting_layout t d) vs law in
    e ∙ ap say (sym (fields_record t d vs own.1 own.0 from))

-- that record is lawful, and writes to the very bytes
pub said_record : (s : List ℕ) (r : Record) → is_line s ≡ true → Says s r → LawfulRecord r × (line_of r ≡ s)
unfolding line_of
said_record s r l e =
    let x = exact_of s in
    let own : layout_of s ≡ layout_for r = own_layout (get_or s 8 0) (get_or s 103 0) s (fields_of r) e in
    let law = x.read_lawful s (fields_of r) e (line_room s l) in
    let bytes : write_fields (layout_of s) (fields_of r) ++ crlf ≡ s = rw (line_end s l) at (x.read_written s (fields_of r) e (line_room s l)) in (
      record { fields = (subst (λ (fs : List Field). LawfulValues fs (fields_of r)) own law).each },
      subst (λ (fs : List Field). write_fields fs (fields_of r) ++ crlf ≡ s) own bytes,
    )

pub record_said : (r : Record) (s : List ℕ) → LawfulRecord r → line_of r ≡ s → LawfulLine s × Says s r
unfolding line_of
record_said r s h e =
    let x = exact_for r in
    let law : LawfulValues (layout_for r) (fields_of r) = record { count = refl; each = h.fields } in
    let back = subst (λ (l : List ℕ). read_fields (layout_for r) [] l ≡ say (fields_of r)) e (x.reads_back (fields_of r) crlf law) in
    let own : layout_of s ≡ layout_for r = own_layout (type_of r.event) r.denominator s (fields_of r) back in
    let says : Says s r = subst (λ (fs : List Field). read_fields fs [] s ≡ say (fields_of r)) (sym own) back in
    let tests = line_tests (write_fields (layout_for r) (fields_of r)) (x.wide (fields_of r) law) (x.printable (fields_of r) law) in (
      record {
        shape = ap is_line (sym e) ∙ tests.0;
        bytes = ap printable (sym e) ∙ tests.1;
        fields = ((exact_of s).none_broken s).1 (fields_of r, says);
      },
      says,
    )
