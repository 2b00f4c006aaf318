-- The laws of specs/Exact.antt, of any table whose fields are placed one behind another and whose rules fit.
use Rattle.std.specs.Prelude.{Some, is_some}
use Prim.Native.Nat.{ℕ, suc, ◌+◌, ◌-◌, ◌≤◌, ◌<◌}
use native.Mathlib.Nat.{zero-add, add-zero, le_of_eq}
use native.Mathlib.Numerals.{add-one}
use native.Mathlib.Omega.{arith}
use mathlib.Core.Path.{◌≡◌, refl, sym, ap, subst, ◌∙◌}
use mathlib.Core.Bool.{Bool, true, cond}
use mathlib.Core.List.{List, [], ◌∷◌, ◌++◌, append-nil}
use borrow.Author.Tests.{ne_eqb}
use lib.Dec.{eqb}
use lib.ListN.{length, get_or, drop, drop_of_length-le}
use Rattle.message.specs.Exact.{LawfulValues, Exact}
use Rattle.message.specs.Fields.{Field, no_field, width, placed, fitting, got_at, keeps_at, Fields, breaks, say, read_fields, value_at, holds_at, first_unlawful, write_fields}
use Rattle.message.specs.First.{Every, First}
use Rattle.message.specs.Rule.{Value, num, lawful}
use Rattle.message.proofs.Fields.{tiles, tiles_from, tile, reads_at, told, told_at, first_broken, read_fields_lem, got_back}
use Rattle.message.proofs.Fields.{LawfulFrom, lawful_count, lawful_first, first_lawful, told_lawful, lawful_width, lawful_printable, lawful_told, lawful_stands}
use Rattle.message.proofs.First.{first_of, one_first, not_every, Checked, passed, failed, checked, first_every, every_first, first_first}

-- ---- going through the fields is going through their numbers

broken_first : (test : ℕ → Bool) (fields : List Field) (s : List ℕ) (n at : ℕ) → tiles n at fields ≡ true
    → ((i : ℕ) → i < length fields → test (n + i) ≡ is_some (reads_at s (get_or fields i no_field))) → first_broken fields s ≡ first_of test n (length fields)
broken_first test [] s n at t h = refl
broken_first test (f ∷ fs) s n at t h =
    let c = tile n at f fs t in
    let here : test n ≡ is_some (reads_at s f) = rw add-zero at (h 0 (omega arith)) in
    let behind : (i : ℕ) → n + 1 + i ≡ n + suc i = λ i. omega arith in
    let rest = broken_first test fs s (n + 1) (at + f.len) c.next (λ i l. rw (behind i) (h (suc i) (omega arith))) in
    rw (here, c.numbered, rest, add-one)

unlawful_first : (test : ℕ → Bool) (fields : List Field) (vs : List Value) (n at : ℕ) → tiles n at fields ≡ true → length vs ≡ length fields
    → ((i : ℕ) → i < length fields → test (n + i) ≡ lawful (get_or fields i no_field).rule (get_or fields i no_field).len (get_or vs i (num 0)))
    → first_unlawful fields vs ≡ first_of test n (length fields)
unlawful_first test [] vs n at t l h = refl
unlawful_first test (f ∷ fs) [] n at t l h = absurd (omega arith)
unlawful_first test (f ∷ fs) (v ∷ vs) n at t l h =
    let c = tile n at f fs t in
    let here : test n ≡ lawful f.rule f.len v = rw add-zero at (h 0 (omega arith)) in
    let behind : (i : ℕ) → n + 1 + i ≡ n + suc i = λ i. omega arith in
    let rest = unlawful_first test fs vs (n + 1) (at + f.len) c.next (omega arith) (λ i l. rw (behind i) (h (suc i) (omega arith))) in
    rw (here, c.numbered, rest, add-one)

module _ (fields : List Field) (p : placed 1 0 fields ≡ true) (q : fitting fields ≡ true) where
  abbrev count : ℕ
  count = length fields

  tiled : tiles 1 0 fields ≡ true
  tiled = tiles_from 1 0 fields p q

  -- ---- reading

  number : (i : ℕ) → 1 + i - 1 ≡ i
  number i = omega arith

  first_kept : (s : List ℕ) → first_broken fields s ≡ first_of (keeps_at fields s) 1 count
  first_kept s = broken_first (keeps_at fields s) fields s 1 0 tiled (λ i l. rw (number i))

  -- what reading says of the message
  abbrev ReadSays : List ℕ → Fields → Type 0
  ReadSays s (breaks n) = First count (keeps_at fields s) n
  ReadSays s (say vs) = Every count (keeps_at fields s) × (told fields s ≡ vs)

  read_says : {g : Fields} (s : List ℕ) → read_fields fields [] s ≡ g → ReadSays s g
  read_says s e =
      let f = first_of (keeps_at fields s) 1 count in
      let reading : read_fields fields [] s ≡ cond (eqb f 0) (say (told fields s)) (breaks f) =
      rw (first_kept s) at (read_fields_lem fields [] s 1 0 (omega arith) tiled) in
      subst (ReadSays s) (sym reading ∙ e) (go (checked count (keeps_at fields s)))
    where
      go : {f : ℕ} → Checked count (keeps_at fields s) f → ReadSays s (cond (eqb f 0) (say (told fields s)) (breaks f))
      go (passed h) = (h, refl)
      go {f} (failed h) = rw (ne_eqb f 0 (λ z. absurd (omega (arith, h.least)))) h

  breaks_at : (s : List ℕ) (n : ℕ) → First count (keeps_at fields s) n → read_fields fields [] s ≡ breaks n
  breaks_at s n h = go (read_fields fields [] s) refl
    where
      go : (g : Fields) → read_fields fields [] s ≡ g → g ≡ breaks n
      go (breaks m) e = ap breaks (one_first count (keeps_at fields s) m n (read_says s e) h)
      go (say vs) e = absurd (not_every count (keeps_at fields s) n h (read_says s e).0)

  says_all : (s : List ℕ) → Every count (keeps_at fields s) → read_fields fields [] s ≡ say (told fields s)
  says_all s h = go (read_fields fields [] s) refl
    where
      go : (g : Fields) → read_fields fields [] s ≡ g → g ≡ say (told fields s)
      go (breaks n) e = absurd (not_every count (keeps_at fields s) n (read_says s e) h)
      go (say vs) e = ap say (sym (read_says s e).1)

  said : (s : List ℕ) (vs : List Value) → read_fields fields [] s ≡ say vs → (n : ℕ) → 1 ≤ n → n ≤ count → got_at fields s n ≡ Some (value_at vs n)
  said s vs e n a b =
      let h = read_says s e in
      got_back (got_at fields s n) (h.0 n a b) ∙ ap Some (sym (told_at fields s (n - 1) (omega arith)) ∙ ap (λ us. value_at us n) h.1)

  -- ---- lawful values

  first_held : (vs : List Value) → length vs ≡ count → first_unlawful fields vs ≡ first_of (holds_at fields vs) 1 count
  first_held vs l = unlawful_first (holds_at fields vs) fields vs 1 0 tiled l (λ i k. rw (number i))

  pub lawful_from : (vs : List Value) → LawfulValues fields vs → LawfulFrom 0 fields vs
  lawful_from vs h =
      first_lawful fields vs 1 0 (omega arith) tiled h.count (first_held vs h.count ∙ every_first count (holds_at fields vs) h.each)

  from_lawful : (vs : List Value) → LawfulFrom 0 fields vs → LawfulValues fields vs
  from_lawful vs h =
      let l = lawful_count h in
      record { count = l; each = first_every count (holds_at fields vs) (sym (first_held vs l) ∙ lawful_first h) }

  read_back : (s : List ℕ) (vs : List Value) → read_fields fields [] s ≡ say vs → width fields ≤ length s
      → LawfulFrom 0 fields vs × (write_fields fields vs ++ drop (width fields) s ≡ s)
  read_back s vs e h =
      let r = read_says s e in
      let none : first_broken fields s ≡ 0 = first_kept s ∙ every_first count (keeps_at fields s) r.0 in
      let l = told_lawful fields s 1 0 (omega arith) tiled none (rw zero-add h) in
      rw (r.1, zero-add) at l

  written_read : (vs : List Value) (after : List ℕ) → LawfulValues fields vs → read_fields fields [] (write_fields fields vs ++ after) ≡ say vs
  written_read vs after h =
      let s = write_fields fields vs ++ after in
      let l = lawful_told (lawful_from vs h) s after refl in
      says_all s (first_every count (keeps_at fields s) (sym (first_kept s) ∙ l.0)) ∙ ap say l.1

  -- ---- one to one

  -- a message of the table's width is what it says, written
  whole : (s : List ℕ) (vs : List Value) → length s ≡ width fields → read_fields fields [] s ≡ say vs → write_fields fields vs ≡ s
  whole s vs l e =
      let none : drop (width fields) s ≡ [] = drop_of_length-le s (le_of_eq l) in
      rw (none, append-nil) at (read_back s vs e (le_of_eq (sym l))).1

  pub exact : Exact fields
  exact =
      record {
        first_broken_lem = λ s n. (read_says s, breaks_at s n);
        none_broken = λ s. (λ h. (told fields s, says_all s h), λ h. (read_says s h.1).0);
        says = said;
        read_lawful = λ s vs e h. from_lawful vs (read_back s vs e h).0;
        read_written = λ s vs e h. (read_back s vs e h).1;
        first_unlawful_lem = λ vs n l a. rw (first_held vs l) (first_first count (holds_at fields vs) n a);
        none_unlawful = λ vs l. (
          λ e. record { count = l; each = first_every count (holds_at fields vs) (sym (first_held vs l) ∙ e) },
          λ h. lawful_first (lawful_from vs h),
        );
        wide = λ vs h. lawful_width (lawful_from vs h);
        printable = λ vs h. lawful_printable (lawful_from vs h);
        reads_back = written_read;
        stands = λ vs after h n a b. lawful_stands (lawful_from vs h) (write_fields fields vs ++ after) after refl (n - 1) (omega arith);
        one_message = λ s t vs l m e f. sym (whole s vs l e) ∙ whole t vs m f;
        one_meaning = λ vs us h k e. let a = written_read vs [] h in let b = written_read us [] k in cc;
      }
