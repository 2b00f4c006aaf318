-- The longest refusal line has 46 bytes: no number above 99 is given, and no field above 24.
use Prim.Native.Nat.{ℕ, ◌+◌, ◌≤◌}
use native.Mathlib.Omega.{arith}
use mathlib.Core.Path.{◌≡◌, refl, sym, subst}
use mathlib.Core.Bool.{Bool, true, false, cond}
use mathlib.Core.Logic.{◌⊎◌, inl, inr}
use mathlib.Core.List.{List, [], ◌∷◌, ◌++◌}
use borrow.Author.Tests.{leb-true, eqb-true}
use lib.Dec.{leb, eqb}
use lib.ListN.{length, length-append}
use Rattle.refusal.specs.Answer.{Answer, value, refused}
use Rattle.layout.specs.Line.{Said, read}
use Rattle.layout.proofs.Answers.{ReadSays, read_says}
use Rattle.day.specs.Machine.{checks, refusal_of, book_read}
use Rattle.day.specs.Tables.{Table}
use Rattle.day.proofs.Chain.{answer_by, first_number}
use Rattle.day.proofs.Verdict.{said_answer}
use Rattle.table.specs.Tables.{limit_of, table_in, sound}
use Rattle.book.specs.Bytes.{book_answer}
use Rattle.row.specs.Texts.{decimal}
use Rattle.row.proofs.Decimals.{decimal_length, decimal_most}
use Rattle.feed.specs.Printed.{line_word, refused_word, field_word, field_text, report}
use Rattle.feed.specs.Steps.{longest}

-- ---- what is answered

abbrev Few : {A : Type 0} → Answer A → Type 0
Few (value x) = Unit {0}
Few (refused n f) = (n ≤ 99) × (f ≤ 24)

read_few : (p : List ℕ) (a : Answer Said) → ReadSays p a → Few a
read_few p (value x) h = tt
read_few p (refused n f) h = go h.number
  where
    go : ((n ≡ 1) × (f ≡ 0)) ⊎ ((n ≡ 2) × (f ≡ 0)) ⊎ (n ≡ 3) → (n ≤ 99) × (f ≤ 24)
    go (inl e) = (omega arith, omega arith)
    go (inr (inl e)) = (omega arith, omega arith)
    go (inr (inr e)) = (omega arith, (h.by3 e).2.most)

refusal_most : (limit : ℕ) (t : Table) (x : Said) → refusal_of limit t x ≤ 99
refusal_most limit t x = leb-true (refusal_of limit t x) 99 (first_number t x (λ n. leb n 99) (checks limit) refl refl)

by_few : (n : ℕ) → n ≤ 99 → Few (answer_by n)
by_few n h = go (eqb n 0)
  where
    go : (b : Bool) → Few {A = Unit {0}} (cond b (value tt) (refused n 0))
    go true = tt
    go false = (h, omega arith)

booked_few : (limit : ℕ) (t : Table) (a : Answer Said) → Few a → Few (book_read limit t a).answer
booked_few limit t (value x) h = subst Few (sym (said_answer limit t x)) (by_few (refusal_of limit t x) (refusal_most limit t x))
booked_few limit t (refused n f) h = h

answer_few : (s p : List ℕ) → Few (book_answer s p)
unfolding book_answer
answer_few s p = go (sound s)
  where
    go : (b : Bool) → Few (cond b (book_read (limit_of (length s)) (table_in s) (read p)).answer (refused 5 0))
    go true = booked_few (limit_of (length s)) (table_in s) (read p) (read_few p (read p) (read_says p refl))
    go false = (omega arith, omega arith)

-- ---- how long that is

-- a number of at most two digits, and a field of at most three only behind a 3
pub tail_most : (n f : ℕ) → n ≤ 99 → f ≤ 999
    → (length (decimal n) ≤ 2) × (length (decimal n) + length (field_text n f) ≤ 11)
tail_most n f h k = (two.1, go (eqb n 3) refl)
  where
    two : (1 ≤ length (decimal n)) × (length (decimal n) ≤ 2)
    two = decimal_length n 2 (omega arith) (omega arith)

    go : (b : Bool) → eqb n 3 ≡ b → length (decimal n) + length (cond b (field_word ++ decimal f) []) ≤ 11
    go true e =
        let one = decimal_length n 1 (omega arith) (omega (arith, eqb-true n 3 e)) in
        let three = decimal_length f 3 (omega arith) (omega arith) in
        omega (arith, length-append field_word (decimal f))
    go false e = omega (arith, two)

line_length : (a b c d e f : List ℕ) → length (a ++ b ++ c ++ d ++ e ++ f) ≡ length a + length b + length c + length d + length e + length f
line_length a b c d e f = simp (length-append {A = ℕ})

report_most : (l : ℕ) (a : Answer (Unit {0})) → Few a → length (report l a) ≤ longest
report_most l (value u) h = omega arith
report_most l (refused n f) h =
    omega (arith, line_length line_word (decimal l) refused_word (decimal n) (field_text n f) (10 ∷ []), decimal_most l, tail_most n f (omega arith) (omega arith))

pub said_most : (l : ℕ) (s p : List ℕ) → length (report l (book_answer s p)) ≤ longest
said_most l s p = report_most l (book_answer s p) (answer_few s p)
