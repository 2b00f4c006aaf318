-- What reading and writing answer, case by case; and what an answer says of the piece or the record.
use Rattle.std.specs.Prelude.{Some}
use Prim.Native.Nat.{ℕ, ◌≤◌, ◌<◌}
use native.Mathlib.Omega.{arith}
use mathlib.Core.Path.{◌≡◌, refl, sym, ap, subst, ◌∙◌}
use mathlib.Core.Logic.{◌⊎◌, inl, inr, ◌↔◌}
use mathlib.Core.Bool.{Bool, true, false, cond, false≢true}
use mathlib.Core.List.{List, [], ◌++◌}
use borrow.Author.Tests.{lt-ltb, le-ltb, ltb-true, ltb-false, eqb-true, eqb-false, ne_eqb}
use lib.Dec.{eqb, ltb}
use lib.ListN.{length, take, drop}
use lib.Seq.{take_at}
use Rattle.run.specs.Runs.{same}
use Rattle.refusal.specs.Answer.{Answer, value, refused}
use Rattle.message.specs.Fields.{Fields, breaks, say, read_fields}
use Rattle.message.specs.First.{First}
use Rattle.layout.specs.Demand2.{field_in, keeps, field_held, holds, LawfulLine, LawfulRecord}
use Rattle.layout.specs.Line.{Said, end_of_day, line, crlf, is_line, printable, layout_of, said_by, read, line_of, unlawful, write, out_after, write_into}
use Rattle.layout.specs.Records.{fields_of, record_of}
use Rattle.layout.specs.declared.Record.{Record}
use Rattle.run.proofs.Sameness.{same_true}
use Rattle.message.proofs.First.{judged}
use Rattle.layout.proofs.Lines.{exact_of, exact_for, line_length, other_than, line_other, Says, line_says, said_record, record_said}
use Rattle.layout.proofs.Values.{record_fields}

-- ---- reading, case by case

pub end_read : (s : List ℕ) → s ≡ crlf → read s ≡ value end_of_day
unfolding read
end_read s e = ap read e

pub no_line_read : (s : List ℕ) → (s ≡ crlf → ⊥) → is_line s ≡ false → read s ≡ refused 1 0
unfolding read
no_line_read s h l = rw (other_than s h, l)

pub bad_byte_read : (s : List ℕ) → is_line s ≡ true → printable s ≡ false → read s ≡ refused 2 0
unfolding read
bad_byte_read s l p = rw (line_other s l, l, p)

fields_read : (s : List ℕ) → is_line s ≡ true → printable s ≡ true → read s ≡ said_by (read_fields (layout_of s) [] s)
unfolding read
fields_read s l p = rw (line_other s l, l, p)

said_read : (s : List ℕ) (r : Record) → is_line s ≡ true → printable s ≡ true → Says s r → read s ≡ value (line r)
said_read s r l p e = fields_read s l p ∙ ap said_by e ∙ ap (λ (q : Record). value (line q)) (record_fields r)

pub bad_field_read : (s : List ℕ) (n : ℕ) → is_line s ≡ true → printable s ≡ true → First 24 (keeps s) n → read s ≡ refused 3 n
bad_field_read s n l p h = fields_read s l p ∙ ap said_by (((exact_of s).first_broken_lem s n).1 h)

pub lawful_read : (s : List ℕ) → LawfulLine s → (r : Record) × (read s ≡ value (line r))
lawful_read s h =
    let said = ((exact_of s).none_broken s).0 h.fields in
    (record_of said.0, said_read s (record_of said.0) h.shape h.bytes (line_says s said.0 h.shape said.1))

-- ---- reading, by its answer

-- a refusal by n, at field f where n is 3
pub record ReadRefused (s : List ℕ) (n f : ℕ) : Type 0 where
  pub number : ((n ≡ 1) × (f ≡ 0)) ⊎ ((n ≡ 2) × (f ≡ 0)) ⊎ (n ≡ 3)
  pub by1 : n ≡ 1 → (s ≡ crlf → ⊥) × (is_line s ≡ false)
  pub by2 : n ≡ 2 → (is_line s ≡ true) × (printable s ≡ false)
  pub by3 : n ≡ 3 → (is_line s ≡ true) × (printable s ≡ true) × First 24 (keeps s) f

-- what an answer says of the piece
abbrev pub ReadSays : List ℕ → Answer Said → Type 0
ReadSays s (value end_of_day) = s ≡ crlf
ReadSays s (value (line r)) = LawfulLine s × Says s r
ReadSays s (refused n f) = ReadRefused s n f

by_fields : (s : List ℕ) → is_line s ≡ true → printable s ≡ true → (g : Fields) → read_fields (layout_of s) [] s ≡ g → ReadSays s (said_by g)
by_fields s l p (breaks n) e =
    record {
      number = inr (inr refl);
      by1 = λ e. absurd (omega arith);
      by2 = λ e. absurd (omega arith);
      by3 = λ q. (l, p, ((exact_of s).first_broken_lem s n).0 e);
    }
by_fields s l p (say vs) e = (record { shape = l; bytes = p; fields = ((exact_of s).none_broken s).1 (vs, e) }, line_says s vs l e)

pub read_says : {a : Answer Said} (s : List ℕ) → read s ≡ a → ReadSays s a
read_says s e = subst (ReadSays s) e (go (same s crlf) (is_line s) (printable s) refl refl refl)
  where
    go : (a b c : Bool) → same s crlf ≡ a → is_line s ≡ b → printable s ≡ c → ReadSays s (read s)
    go true b c x y z = let e = same_true s crlf x in subst (ReadSays s) (sym (end_read s e)) e
    go false false c x y z =
        let h : s ≡ crlf → ⊥ = λ e. false≢true (sym x ∙ ap (λ (t : List ℕ). same t crlf) e) in
        subst (ReadSays s) (sym (no_line_read s h y))
        (record { number = inl (refl, refl); by1 = λ e. (h, y); by2 = λ e. absurd (omega arith); by3 = λ e. absurd (omega arith) })
    go false true false x y z =
        subst (ReadSays s) (sym (bad_byte_read s y z))
        (record { number = inr (inl (refl, refl)); by1 = λ e. absurd (omega arith); by2 = λ e. (y, z); by3 = λ e. absurd (omega arith) })
    go false true true x y z =
        subst (ReadSays s) (sym (fields_read s y z)) (by_fields s y z (read_fields (layout_of s) [] s) refl)

-- each field of the record is what its rule reads in its bytes
pub field_said : (s : List ℕ) (r : Record) → read s ≡ value (line r) → (n : ℕ) → 1 ≤ n → n ≤ 24 → field_in s n ≡ Some (field_held r n)
field_said s r e n a b = (exact_of s).says s (fields_of r) (read_says s e).1 n a b

pub read_back : (s : List ℕ) (r : Record) → read s ≡ value (line r) → LawfulRecord r × (line_of r ≡ s)
read_back s r e = let h = read_says s e in said_record s r h.0.shape h.1

pub written_reads : (r : Record) → LawfulRecord r → read (line_of r) ≡ value (line r)
written_reads r h =
    let l = record_said r (line_of r) h refl in
    said_read (line_of r) r l.0.shape l.0.bytes l.1

-- ---- writing, case by case

pub no_room_write : (r : Record) (out : List ℕ) → length out < 140 → write r out ≡ refused 4 0
no_room_write r out h = rw (lt-ltb (length out) 140 h)

fields_write : (r : Record) (out : List ℕ) → 140 ≤ length out → write r out ≡ judged (unlawful r) tt
fields_write r out h = rw (le-ltb (length out) 140 h)

pub none_unlawful : (r : Record) → (unlawful r ≡ 0) ↔ LawfulRecord r
unfolding unlawful
none_unlawful r =
    let x = (exact_for r).none_unlawful (fields_of r) refl in
    (λ e. record { fields = (x.0 e).each }, λ h. x.1 (record { count = refl; each = h.fields }))

pub lawful_write : (r : Record) (out : List ℕ) → LawfulRecord r → 140 ≤ length out → write r out ≡ value tt
lawful_write r out h room = fields_write r out room ∙ rw ((none_unlawful r).1 h)

first_unlawful_lem : (r : Record) (n : ℕ) → 1 ≤ n → (unlawful r ≡ n) ↔ First 24 (holds r) n
unfolding unlawful
first_unlawful_lem r n a = (exact_for r).first_unlawful_lem (fields_of r) n refl a

pub bad_value_write : (r : Record) (out : List ℕ) (n : ℕ) → 140 ≤ length out → First 24 (holds r) n → write r out ≡ refused 3 n
bad_value_write r out n room h = fields_write r out room ∙ rw ((first_unlawful_lem r n h.least).1 h, ne_eqb n 0 (λ z. absurd (omega (arith, h.least))))

-- a lawful record with room: its line, and behind it what stood there
pub lawful_written : (r : Record) (out : List ℕ) → LawfulRecord r → 140 ≤ length out → write_into r out ≡ (value tt, line_of r ++ drop 140 out)
lawful_written r out h room = ap (λ (a : Answer (Unit {0})). (a, out_after a r out)) (lawful_write r out h room)

pub length_line : (r : Record) → LawfulRecord r → length (line_of r) ≡ 140
length_line r h = line_length (line_of r) (record_said r (line_of r) h refl).0.shape

-- two lawful records that leave one and the same buffer are one
pub one_written : (r q : Record) (out : List ℕ) → LawfulRecord r → LawfulRecord q → 140 ≤ length out → write_into r out ≡ write_into q out → r ≡ q
one_written r q out h k room e =
    let same : line_of r ++ drop 140 out ≡ line_of q ++ drop 140 out =
    ap (λ (x : Answer (Unit {0}) × List ℕ). x.1) (sym (lawful_written r out h room) ∙ e ∙ lawful_written q out k room) in
    let lines : line_of r ≡ line_of q =
    sym (take_at (line_of r) (drop 140 out) 140 (length_line r h)) ∙ ap (take 140) same ∙ take_at (line_of q) (drop 140 out) 140 (length_line q k) in
    cc (written_reads r h, written_reads q k)

-- ---- writing, by its answer

pub record WriteRefused (r : Record) (out : List ℕ) (n f : ℕ) : Type 0 where
  pub number : ((n ≡ 4) × (f ≡ 0)) ⊎ (n ≡ 3)
  pub by4 : n ≡ 4 → length out < 140
  pub by3 : n ≡ 3 → (140 ≤ length out) × First 24 (holds r) f

-- what an answer says of the record
abbrev pub WriteSays : Record → List ℕ → Answer (Unit {0}) → Type 0
WriteSays r out (value u) = LawfulRecord r
WriteSays r out (refused n f) = WriteRefused r out n f

by_unlawful : (r : Record) (out : List ℕ) → 140 ≤ length out → (n : ℕ) → unlawful r ≡ n → WriteSays r out (judged n tt)
by_unlawful r out room n e = go (eqb n 0) refl
  where
    go : (t : Bool) → eqb n 0 ≡ t → WriteSays r out (cond t (value tt) (refused 3 n))
    go true z = (none_unlawful r).0 (e ∙ eqb-true n 0 z)
    go false z =
        let some : ¬ (n ≡ 0) = eqb-false n 0 z in
        record { number = inr refl; by4 = λ q. absurd (omega arith); by3 = λ q. (room, (first_unlawful_lem r n (omega arith)).0 e) }

pub write_says : {a : Answer (Unit {0})} (r : Record) (out : List ℕ) → write r out ≡ a → WriteSays r out a
write_says r out e = subst (WriteSays r out) e (go (ltb (length out) 140) refl)
  where
    go : (t : Bool) → ltb (length out) 140 ≡ t → WriteSays r out (write r out)
    go true e =
        let h = ltb-true (length out) 140 e in
        subst (WriteSays r out) (sym (no_room_write r out h)) (record { number = inl (refl, refl); by4 = λ e. h; by3 = λ e. absurd (omega arith) })
    go false e =
        let h = ltb-false (length out) 140 e in
        subst (WriteSays r out) (sym (fields_write r out h)) (by_unlawful r out h (unlawful r) refl)
