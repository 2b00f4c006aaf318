-- 01, Promises: no wrong booking of specs/Wrong.antt keeps the promise, by a witness.
use Prim.Native.Nat.{ℕ}
use native.Mathlib.Omega.{arith}
use mathlib.Core.Path.{◌≡◌, refl, sym, ap, subst, ◌∙◌}
use mathlib.Core.Bool.{Bool, true, false, cond}
use mathlib.Core.List.{List, [], ◌∷◌}
use lib.Dec.{eqb}
use lib.ListN.{length}
use Rattle.std.specs.Prelude.{Result, Ok}
use Rattle.refusal.specs.Answer.{Answer, value, refused, answer_of}
use Rattle.refusal.specs.declared.Refusal.{Refusal}
use Rattle.layout.proofs.Forms.{no_value}
use Rattle.layout.specs.Line.{Said, read, line_of}
use Rattle.layout.specs.declared.Event.TheVariants.{Accepted, Executed}
use Rattle.day.specs.Case.{fill, naming}
use Rattle.day.specs.Damage.{open_at}
use Rattle.day.specs.Demand3.{table_after, answer_to}
use Rattle.day.specs.Machine.{refusal_of, book_read}
use Rattle.day.specs.Machine.{book as book_day}
use Rattle.table.specs.Tables.{least_limit, limit_of, table_in, sound}
use Rattle.table.proofs.Answers.{no_limit}
use Rattle.table.proofs.Making.{blank, blank_limit, blank_meant}
use Rattle.book.specs.Bytes.{read_bytes, book_bytes, book_answer, bytes_after}
use Rattle.book.specs.Wrong.{Keeps, RefusesAll, ChangesNothing, NodsAtRest, ChangesRefusing, BooksDamaged, BooksOtherLength}
use Rattle.book.proofs.Determined.{book_determined}
use Rattle.book.proofs.Reached.{Reached, reached_answer, reached_bytes}

-- the witnesses: A T1 100; E T1 30
abbrev order : List ℕ
order = line_of (naming Accepted 1 100)

abbrev trade : List ℕ
trade = line_of (naming (Executed fill) 1 30)

-- the table made in a lent buffer, and what the pieces booked into it lead to
abbrev after : List (List ℕ) → List ℕ
after = bytes_after blank

abbrev limit : ℕ
limit = least_limit

reached : (ps : List (List ℕ)) → Reached limit ps (after ps)
reached ps = subst (λ (n : ℕ). Reached n ps (after ps)) blank_limit (reached_bytes blank blank_meant ps)

-- ---- a refusal

-- 00, demand 1: where a refusal is given, the table stays
read_stays : (s : List ℕ) (a : Answer Said) {n f : ℕ} → refused n f ≡ (book_read (limit_of (length s)) (table_in s) a).answer → read_bytes a s ≡ s
read_stays s (value x) e = go (eqb (refusal_of (limit_of (length s)) (table_in s) x) 0) refl
  where
    go : (b : Bool) → eqb (refusal_of (limit_of (length s)) (table_in s) x) 0 ≡ b → read_bytes (value x) s ≡ s
    go true q = absurd (no_value (rw q at e))
    go false q = rw q
read_stays s (refused k g) e = refl

pub refusal_stays : (s p : List ℕ) {n f : ℕ} → refused n f ≡ book_answer s p → book_bytes s p ≡ s
unfolding book_answer book_bytes
refusal_stays s p {n} {f} = go (sound s)
  where
    go : (b : Bool) → refused n f ≡ cond b (book_day (limit_of (length s)) (table_in s) p).answer (refused 5 0) → cond b (read_bytes (read p) s) s ≡ s
    go true e = read_stays s (read p) e
    go false e = refl

-- ---- what keeps the promise is none of these

module _ {book : List ℕ → List ℕ → Result (Unit {0}) Refusal × List ℕ} (keeps : Keeps book) where
  -- a piece that the machine of the day accepts is booked
  booked : (ps : List (List ℕ)) (p : List ℕ) → answer_to (book_day limit) ps p ≡ value tt
      → ((book (after ps) p).0 ≡ Ok tt) × ((book (after ps) p).1 ≡ after (p ∷ ps))
  booked ps p e =
      let said = reached_answer (reached ps) p ∙ e in
      book_determined (after ps) p _ (Ok tt) _ (after (p ∷ ps)) (keeps (after ps) p) (record { said = sym said; out = refl })

  -- and the orders stay if the table does
  nodded : (ps : List (List ℕ)) (p : List ℕ) → answer_to (book_day limit) ps p ≡ value tt
      → ((book (after ps) p).0 ≡ Ok tt → (book (after ps) p).1 ≡ after ps)
      → (table_after (book_day limit) (p ∷ ps)).orders ≡ (table_after (book_day limit) ps).orders
  nodded ps p e same =
      let (b, t) = booked ps p e in
      let stays = ap table_in (sym t ∙ same b) in
      ap (λ t. t.orders) (sym (reached (p ∷ ps)).says ∙ stays ∙ (reached ps).says)

  pub refuses_all : RefusesAll book → ⊥
  unfolding read line_of
  refuses_all refuses =
      let (x, e) = refuses (after []) order in
      no_value (ap answer_of (sym e ∙ (booked [] order refl).0))

  pub changes_nothing : ChangesNothing book → ⊥
  unfolding read line_of
  changes_nothing same = omega (arith, ap length (nodded [] order refl (same (after []) order)))

  pub nods_at_rest : NodsAtRest book → ⊥
  unfolding read line_of
  nods_at_rest same =
      let one = ap (λ t. length t.orders) (reached (order ∷ [])).says in
      omega (arith, ap (λ os. open_at os 0) (nodded (order ∷ []) trade refl (same (after (order ∷ [])) trade (omega (arith, one)))))

  pub changes_refusing : ChangesRefusing book → ⊥
  changes_refusing (s, p, x, e, other) =
      other ((keeps s p).out ∙ refusal_stays s p (sym (ap answer_of e) ∙ (keeps s p).said))

  pub books_damaged : BooksDamaged book → ⊥
  unfolding book_answer
  books_damaged (s, p, damaged, e) = no_value (sym (rw damaged at (sym (ap answer_of e) ∙ (keeps s p).said)))

  pub books_other_length : BooksOtherLength book → ⊥
  books_other_length (s, p, other, e) = books_damaged (s, p, sym (no_limit s other), e)
