-- A reader and a writer that have demand 2 answer every input as the written rules do, and only those have it: the statement of specs/Settled.antt.
use Prim.Native.Nat.{ℕ, ◌+◌, ◌-◌, ◌≤◌, ◌<◌}
use native.Mathlib.Omega.{arith}
use mathlib.Core.Path.{◌≡◌, refl, sym, ap, ap₂, subst₂, fun_ext, ◌∙◌}
use mathlib.Core.Logic.{◌⊎◌, inl, inr}
use mathlib.Core.List.{List, ◌++◌}
use lib.ListN.{length, get_or, drop}
use lib.Seq.{ext_get_or}
use Rattle.refusal.specs.Answer.{Answer, value, refused}
use Rattle.layout.specs.Demand2.{Demand2, field_held}
use Rattle.layout.specs.Line.{Said, end_of_day, line, read, line_of, write, out_after, write_into}
use Rattle.layout.specs.Records.{fields_of, record_of}
use Rattle.message.specs.Rule.{num}
use Rattle.layout.specs.Settled.{Settled}
use Rattle.layout.specs.declared.Record.{Record}
use Rattle.layout.proofs.Answers.{ReadRefused, read_says, field_said, read_back, no_room_write, WriteRefused, write_says}
use Rattle.layout.proofs.Demand2.{demand2}
use Rattle.layout.proofs.Forms.{no_value}
use Rattle.layout.proofs.Values.{record_fields}

-- two records that hold the same as each of the 24 fields are one
same_fields : (r q : Record) → ((n : ℕ) → 1 ≤ n → n ≤ 24 → field_held r n ≡ field_held q n) → r ≡ q
same_fields r q h = sym (record_fields r) ∙ ap record_of (ext_get_or (num 0) (fields_of r) (fields_of q) refl at) ∙ record_fields q
  where
    at : (i : ℕ) → i < 24 → get_or (fields_of r) i (num 0) ≡ get_or (fields_of q) i (num 0)
    at i b =
        let e : i + 1 - 1 ≡ i = omega arith in
        rw e at (h (i + 1) (omega arith) (omega arith))

module _ (reader : List ℕ → Answer Said) (writer : Record → List ℕ → Answer (Unit {0}) × List ℕ) where
  module _ (d : Demand2 reader writer) where
    refused_read : (s : List ℕ) (n f : ℕ) → ReadRefused s n f → reader s ≡ refused n f
    refused_read s n f h = go h.number
      where
        go : ((n ≡ 1) × (f ≡ 0)) ⊎ ((n ≡ 2) × (f ≡ 0)) ⊎ (n ≡ 3) → reader s ≡ refused n f
        go (inl e) = rw (e.0, e.1) ((d.no_line s).1 (h.by1 e.0))
        go (inr (inl e)) = rw (e.0, e.1) ((d.bad_byte s).1 (h.by2 e.0))
        go (inr (inr e)) = rw e ((d.bad_field s f).1 (h.by3 e))

    reads_so : (s : List ℕ) → reader s ≡ read s
    reads_so s = go (read s) refl
      where
        go : (a : Answer Said) → read s ≡ a → reader s ≡ a
        go (value end_of_day) e = (d.end_reads s).1 (read_says s e)
        go (value (line r)) e =
            let q = (d.lawful_reads s).0 (read_says s e).0 in
            let same : q.0 ≡ r = same_fields q.0 r (λ n a b. let x = d.says s q.0 q.1 n a b in let y = field_said s r e n a b in cc) in
            q.1 ∙ ap (λ (x : Record). value (line x)) same
        go (refused n f) e = refused_read s n f (read_says s e)

    refused_write : (r : Record) (out : List ℕ) (n f : ℕ) → WriteRefused r out n f → (writer r out).0 ≡ refused n f
    refused_write r out n f h = go h.number
      where
        go : ((n ≡ 4) × (f ≡ 0)) ⊎ (n ≡ 3) → (writer r out).0 ≡ refused n f
        go (inl e) = rw (e.0, e.1) ((d.no_room r out).1 (h.by4 e.0))
        go (inr e) = rw e ((d.bad_value r out f).1 (h.by3 e))

    writes_so : (r : Record) (out : List ℕ) → writer r out ≡ write_into r out
    writes_so r out = go (write r out) refl
      where
        go : (a : Answer (Unit {0})) → write r out ≡ a → writer r out ≡ (a, out_after a r out)
        go (value u) e =
            let room : ¬ (length out < 140) = λ l. no_value (sym (no_room_write r out l) ∙ e) in
            let w = d.written_reads r out (write_says r out e) (omega arith) in
            let same : line_of r ≡ w.0 = (read_back w.0 r (sym (reads_so w.0) ∙ w.2)).1 in
            w.1 ∙ ap (λ (s : List ℕ). (value tt, s ++ drop 140 out)) (sym same)
        go (refused n f) e =
            let a = refused_write r out n f (write_says r out e) in
            ap₂ (λ (x : Answer (Unit {0})) (y : List ℕ). (x, y)) a (d.refused_keeps r out n f a)

  pub settled : Settled reader writer
  settled = (
    λ d. record { reads = reads_so d; writes = writes_so d },
    λ h. subst₂ Demand2 (sym (fun_ext h.reads)) (sym (fun_ext (λ r. fun_ext (h.writes r)))) demand2,
  )
