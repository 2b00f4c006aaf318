-- Booking a piece looks at no more than what the hold keeps of it.
use Prim.Native.Nat.{ℕ, zero, suc, ◌<◌}
use native.Mathlib.Omega.{arith}
use mathlib.Core.Path.{◌≡◌, refl, sym, ap, ◌∙◌}
use mathlib.Core.Bool.{Bool, true, false, cond}
use mathlib.Core.List.{List, [], ◌∷◌, ◌++◌}
use borrow.Author.Tests.{leb-true, leb-false, ne_eqb}
use lib.Dec.{leb}
use lib.ListN.{length, take, length-take}
use lib.Seq.{take_all}
use Rattle.refusal.specs.Answer.{Answer, refused}
use Rattle.layout.specs.Line.{Said, read}
use Rattle.layout.proofs.Answers.{no_line_read}
use Rattle.day.specs.Machine.{book_read}
use Rattle.table.specs.Tables.{limit_of, table_in, sound}
use Rattle.book.specs.Bytes.{read_bytes, book_bytes, book_answer}
use Rattle.feed.specs.Steps.{hold_length, kept_of}

-- ---- reading

too_long : (p : List ℕ) → 140 < length p → read p ≡ refused 1 0
too_long p h = no_line_read p (λ e. omega (arith, ap length e)) (rw (ne_eqb (length p) 140 (λ e. omega arith)))

read_verbatim : (p : List ℕ) → read (kept_of p) ≡ read p
read_verbatim p = go (leb (length p) hold_length) refl
  where
    go : (t : Bool) → leb (length p) hold_length ≡ t → read (kept_of p) ≡ read p
    go true e = ap read (take_all hold_length p (leb-true (length p) hold_length e))
    go false e =
        let h = leb-false (length p) hold_length e in
        too_long (kept_of p) (omega (arith, length-take hold_length p)) ∙ sym (too_long p (omega arith))

take_front : (n : ℕ) (p q : List ℕ) → take n (take n p ++ q) ≡ take n (p ++ q)
take_front zero p q = refl
take_front (suc n) [] q = refl
take_front (suc n) (b ∷ p) q = ap (λ l. b ∷ l) (take_front n p q)

read_verbatim_then : (p q : List ℕ) → read (kept_of p ++ q) ≡ read (p ++ q)
read_verbatim_then p q = sym (read_verbatim (kept_of p ++ q)) ∙ ap read (take_front hold_length p q) ∙ read_verbatim (p ++ q)

-- ---- booking

module _ (s p q : List ℕ) (e : read p ≡ read q) where
  same_answer : book_answer s p ≡ book_answer s q
  unfolding book_answer
  same_answer = ap (λ (a : Answer Said). cond (sound s) (book_read (limit_of (length s)) (table_in s) a).answer (refused 5 0)) e

  same_bytes : book_bytes s p ≡ book_bytes s q
  unfolding book_bytes
  same_bytes = ap (λ (a : Answer Said). cond (sound s) (read_bytes a s) s) e

module _ (s p : List ℕ) where
  pub verbatim_answer : book_answer s (kept_of p) ≡ book_answer s p
  verbatim_answer = same_answer s (kept_of p) p (read_verbatim p)

  pub kept_bytes : book_bytes s (kept_of p) ≡ book_bytes s p
  kept_bytes = same_bytes s (kept_of p) p (read_verbatim p)

-- also where more of the piece comes behind what is held
module _ (s p q : List ℕ) where
  pub then_answer : book_answer s (kept_of p ++ q) ≡ book_answer s (p ++ q)
  then_answer = same_answer s (kept_of p ++ q) (p ++ q) (read_verbatim_then p q)

  pub then_bytes : book_bytes s (kept_of p ++ q) ≡ book_bytes s (p ++ q)
  then_bytes = same_bytes s (kept_of p ++ q) (p ++ q) (read_verbatim_then p q)
