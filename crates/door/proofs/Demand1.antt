-- The tender's demand 1, proved: every answer is 0 or a numbered refusal, and what is refused is left as it was.
use Rattle.std.proofs.Common.{Option, unwrap_or}
use Prim.Native.Nat.{ℕ, zero, suc, ◌<◌, ◌/◌, ◌%◌}
use native.Mathlib.Omega.{arith}
use mathlib.Core.Path.{◌≡◌, refl, sym, ap, ◌∙◌}
use mathlib.Core.Bool.{Bool, true, false, cond, not, ◌&&◌, ◌||◌, false≢true}
use mathlib.Core.List.{List, [], ◌∷◌}
use mathlib.Core.Logic.{inl, inr, ⊎_elim}
use borrow.Author.Tests.{not-true, eqb-true}
use lib.Dec.{ltb, leb, eqb}
use lib.ListN.{length, get_or, replicate}
use Rattle.run.specs.Runs.{member}
use Rattle.run.proofs.Tests.{both as holds, either}
use Rattle.field.proofs.Fill.{between, is_between}
use Rattle.refusal.specs.Answer.{Answer, value, refused, refused_by, code_of}
use Rattle.refusal.specs.Numbers.{number_of, field_of}
use Rattle.refusal.proofs.OneNumber.{by_number}
use Rattle.refusal.specs.declared.Refusal.{Refusal}
use Rattle.refusal.specs.declared.Refusal.TheVariants.{NoLine, BadByte, Field, NoRoom, Damaged, UnknownKey}
use Rattle.message.specs.First.{First}
use Rattle.message.specs.Rule.{num, lawful}
use Rattle.layout.specs.Clocks.{clock}
use Rattle.layout.specs.Layout.{timestamp, denominators}
use Rattle.layout.specs.Line.{Said, out_after, unlawful}
use Rattle.layout.specs.Line.{read as read_line}
use Rattle.layout.specs.Strikes.{unit, lawful_strike, strike_value, form_under, strike_form}
use Rattle.layout.specs.declared.Clock.{Clock}
use Rattle.layout.specs.declared.Record.{Record}
use Rattle.layout.specs.declared.Strike.{Strike}
use Rattle.layout.proofs.Answers.{ReadRefused, ReadSays, read_says, write_says}
use Rattle.day.specs.Machine.{place, checks, refusal_of, book_read}
use Rattle.day.specs.Tables.{Table, Booked}
use Rattle.day.proofs.Chain.{first_number}
use Rattle.table.specs.Entries.{place_or8, look_up_answer, copy_answer, copied_from}
use Rattle.section.specs.declared.Section.{Section}
use Rattle.slot.specs.Slots.{key_in}
use Rattle.slot.specs.Places.{slots}
use Rattle.quote_slot.specs.QuoteSlots.{rows}
use Rattle.table.specs.Tables.{table_length, least_limit, limit_of, count_in, row_count_in, base_in, table_in, sound, make_answer, made_from}
use Rattle.book.specs.Bytes.{book_answer, book_bytes}
use Rattle.book.proofs.Refuted.{refusal_stays}
use Rattle.piece.specs.Pieces.{pieces}
use Rattle.book_all.specs.InTurn.{answers_to, first_pieces}
use Rattle.book_all.specs.Promises.{used_of, book_all_answer, table_from, answers_from}
use Rattle.book_all.specs.declared.Used.{Used}
use Rattle.book_all.proofs.Given.{first_few, first_of}
use Rattle.sheet.specs.Promises.{text_of, sheet_answer, sheet_from}
use Rattle.door.specs.Demand1.{Answers, Refuses, Demand1}
use Rattle.image.specs.Images.{odd, unmeant, record_in, sooner, unwritable}
use Rattle.door.specs.Promises.{number_after, read_answer, kind_of, record_after, write_answer, BooksAllIn}

-- ---- a value, or a numbered refusal

data Told {A : Type 0} : Answer A → Type 0 where
  given : (x : A) → Told (value x)
  field : (n : ℕ) → (leb 1 n && leb n 24) ≡ true → Told (refused 3 n)
  other : (x : Refusal) → eqb (number_of x) 3 ≡ false → Told (refused_by x)

told : {A : Type 0} {a : Answer A} {r : ℕ} → Told a → r ≡ code_of a → Answers r
told (given x) e = inl e
told (field n h) e = inr (Field n, e, λ q. between 1 24 n h)
told (other x h) e = inr (x, e, λ q. absurd (false≢true (sym h ∙ ap (λ n. eqb n 3) q)))

-- what holds on both sides of a test
unless : {A : Type 0} (P : A → Type 0) (t : Bool) {a b : A} → P a → (t ≡ false → P b) → P (cond t a b)
unless P true x y = x
unless P false x y = y refl

both : {A : Type 0} (P : A → Type 0) (t : Bool) {a b : A} → P a → P b → P (cond t a b)
both P t x y = unless P t x (λ e. y)

-- where no refusal is named
none : {P : Type 0} → true ≡ false → P
none e = absurd (false≢true (sym e))

-- the first field that fails
first_told : {A : Type 0} {test : ℕ → Bool} {n : ℕ} → First 24 test n → Told {A = A} (refused 3 n)
first_told {n = n} h = field n (is_between 1 24 n h.least h.most)

-- a piece that is refused
unread_told : {A : Type 0} (s : List ℕ) {n f : ℕ} → ReadRefused s n f → Told {A = A} (refused n f)
unread_told s {n} {f} h =
    ⊎_elim (λ e. rw (e.0, e.1) (other NoLine refl))
    (⊎_elim (λ e. rw (e.0, e.1) (other BadByte refl)) (λ e. rw e (first_told (h.by3 e).2)))
    h.number

read_told : (s : List ℕ) → Told (read_line s)
read_told s = go (read_line s) (read_says s refl)
  where
    go : (a : Answer Said) → ReadSays s a → Told a
    go (value x) h = given x
    go (refused n f) h = unread_told s h

-- a field, if any
abbrev OfField : ℕ → Type 0
OfField n = eqb n 0 ≡ false → Told {A = Unit {0}} (refused 3 n)

unmeant_told : (b : List ℕ) → OfField (unwrap_or (unmeant b) 0)
unfolding unmeant
unmeant_told b =
    both Odd (odd b 2) (λ e. field 2 refl)
    (both Odd (odd b 6) (λ e. field 6 refl)
    (both Odd (odd b 22) (λ e. field 22 refl) (both Odd (odd b 23) (λ e. field 23 refl) (both Odd (odd b 24) (λ e. field 24 refl) none))))
  where
    Odd : Option ℕ → Type 0
    Odd o = OfField (unwrap_or o 0)

-- as a buffer that has the room is told
unlawful_told : (r : Record) → OfField (unlawful r)
unlawful_told r e = let room = replicate {A = ℕ} 140 0 in first_told ((write_says {a = refused 3 (unlawful r)} r room (rw e)).by3 refl).1

sooner_told : (m n : ℕ) → OfField m → OfField n → OfField (sooner m n)
sooner_told m n f g = both OfField (eqb m 0) g (both OfField (eqb n 0) f (both OfField (ltb n m) g f))

unwritable_told : (b : List ℕ) → OfField (unwritable b)
unfolding unwritable
unwritable_told b =
    both OfField (eqb (length b) 138)
    (sooner_told (unwrap_or (unmeant b) 0) (unlawful (record_in b)) (unmeant_told b) (unlawful_told (record_in b)))
    (λ e. field 24 refl)

write_told : (b : List ℕ) → Told {A = Unit {0}} (cond (eqb (unwritable b) 0) (value tt) (refused 3 (unwritable b)))
write_told b = unless Told (eqb (unwritable b) 0) (given tt) (unwritable_told b)

strike_value_told : (d n : ℕ) → Told (strike_value d n)
unfolding strike_value
strike_value_told d n = both Told (member d denominators) (both Told (lawful_strike d n) (given _) (field 21 refl)) (field 20 refl)

under_told : (d v : ℕ) {other : Answer Strike} → Told other → Told (form_under d v other)
under_told d v = both Told (eqb (v % unit d) 0 && lawful_strike d (v / unit d)) (given _)

strike_form_told : (v : ℕ) → Told (strike_form v)
unfolding strike_form
strike_form_told v = under_told 69 v (under_told 68 v (under_told 67 v (under_told 66 v (under_told 65 v (field 21 refl)))))

clock_told : (ms : ℕ) → Told (clock ms)
unfolding clock
clock_told ms = both Told (lawful timestamp 8 (num ms)) (given _) (field 1 refl)

make_told : (before : List ℕ) → Told (make_answer before)
make_told before =
    both Told (ltb (length before) (table_length least_limit)) (other NoRoom refl)
    (both Told (ltb 0 (limit_of (length before))) (given tt) (other Damaged refl))

place_told : (i : ℕ) → Told (place_or8 i)
place_told zero = other UnknownKey refl
place_told (suc i) = given i

look_up_told : (s k : List ℕ) → Told (look_up_answer s k)
look_up_told s k =
    both Told (sound s) (both Told (eqb (length k) 26) (place_told (place (key_in k) (table_in s).orders)) (other UnknownKey refl)) (other Damaged refl)

copy_told : (c : Section) (n : ℕ) (s : List ℕ) (i : ℕ) (before : List ℕ) → Told (copy_answer c n s i before)
copy_told c n s i before =
    both Told (sound s)
    (both Told (ltb (length before) c.width) (other NoRoom refl) (both Told (ltb i n) (given tt) (other UnknownKey refl))) (other Damaged refl)

sheet_told : (s before : List ℕ) → Told (sheet_answer s before)
unfolding sheet_answer
sheet_told s before = both Told (sound s) (both Told (ltb (length before) (length (text_of s))) (other NoRoom refl) (given _)) (other Damaged refl)

-- a refusal that comes without a field has this number
abbrev is_plain : Refusal → ℕ → Bool
is_plain x n = eqb (number_of x) n && (eqb (field_of x) 0 && not (eqb (number_of x) 3))

plain_told : (x : Refusal) (n : ℕ) → is_plain x n ≡ true → Told {A = Unit {0}} (refused n 0)
plain_told x n e =
    let (a, b) = holds (eqb (number_of x) n) (eqb (field_of x) 0 && not (eqb (number_of x) 3)) e in
    let (c, d) = holds (eqb (field_of x) 0) (not (eqb (number_of x) 3)) b in
    let its : Told {A = Unit {0}} (refused (number_of x) (field_of x)) = other x (not-true (eqb (number_of x) 3) d) in
    rw (eqb-true (number_of x) n a, eqb-true (field_of x) 0 c) at its

-- a refusal of the day, if any
day_told : (limit : ℕ) (t : Table) (x : Said) → eqb (refusal_of limit t x) 0 ≡ false → Told {A = Unit {0}} (refused (refusal_of limit t x) 0)
day_told limit t x e =
    let n = refusal_of limit t x in
    either (eqb n 0) (is_plain (by_number n 0) n) (λ z. absurd (false≢true (sym e ∙ z))) (plain_told (by_number n 0) n)
    (first_number t x (λ n. eqb n 0 || is_plain (by_number n 0) n) (checks limit) refl refl)

book_told : (s p : List ℕ) → Told (book_answer s p)
unfolding book_answer
book_told s p = both Told (sound s) (go (read_line p) (read_says p refl)) (other Damaged refl)
  where
    go : (a : Answer Said) → ReadSays p a → Told (book_read (limit_of (length s)) (table_in s) a).answer
    go (value x) h =
        unless (λ (b : Booked). Told b.answer) (eqb (refusal_of (limit_of (length s)) (table_in s) x) 0) (given tt)
        (day_told (limit_of (length s)) (table_in s) x)
    go (refused n f) h = unread_told p h

-- the answers to pieces one after another
each_answers : (table : List ℕ) (ps : List (List ℕ)) (i : ℕ) → i < length ps → Answers (get_or (answers_to table ps) i 0)
each_answers table [] i h = absurd (omega arith)
each_answers table (p ∷ ps) zero h = told (book_told table p) refl
each_answers table (p ∷ ps) (suc i) h = each_answers (book_bytes table p) ps i (omega arith)

book_all_told : (table text answers : List ℕ) → Told (book_all_answer table text answers)
book_all_told table text answers = both Told (sound table) (given _) (other Damaged refl)

-- of a text that was taken, each answer that was given
all_answered : (table text answers : List ℕ) (used booked r : ℕ) (after last : List ℕ) (used' booked' : ℕ)
    → BooksAllIn table text answers used booked r after last used' booked' → r ≡ 0 → (i : ℕ) → i < booked' → Answers (get_or last i 0)
all_answered table text answers used booked r after last used' booked' h z = go (sound table) h.said h.told h.pieces
  where
    ps : List (List ℕ)
    ps = first_pieces (length answers) text

    answer : Bool → Answer Used
    answer b = cond b (value (used_of (length answers) text)) (refused 5 0)

    go : (b : Bool) → r ≡ code_of (answer b) → last ≡ answers_from (answer b) table text answers
        → booked' ≡ number_after (λ (u : Used). u.pieces) (answer b) booked → (i : ℕ) → i < booked' → Answers (get_or last i 0)
    go true e k n i l =
        rw (k, first_of answers table ps i (omega arith) (first_few (length answers) (pieces text))) (each_answers table ps i (omega arith))
    go false e k n i l = absurd (omega arith)

-- ---- what a refusal leaves

-- an answer whose code is not 0 is refused
refusal : {A : Type 0} (a : Answer A) {r : ℕ} → r ≡ code_of a → Refuses r → (n : ℕ) × (f : ℕ) × (a ≡ refused n f)
refusal (value x) e k = absurd (k e)
refusal (refused n f) e k = (n, f, refl)

-- so it leaves what a refusal leaves
module _ {A : Type 0} (a : Answer A) {r : ℕ} (said : r ≡ code_of a) (k : Refuses r) where
  lent_stays : {B : Type 0} (left : Answer A → B) {before after : B} → ((n f : ℕ) → left (refused n f) ≡ before) → after ≡ left a → after ≡ before
  lent_stays left same e = let (n, f, h) = refusal a said k in e ∙ ap left h ∙ same n f

  number_stays : (of : A → ℕ) (before : ℕ) {after : ℕ} → after ≡ number_after of a before → after ≡ before
  number_stays of before = lent_stays (λ b. number_after of b before) (λ n f. refl)

pub demand1 : Demand1
demand1 =
    record {
      read_answers = λ piece before kind r after kind' h.
          told (both Told (ltb (length before) 138) (other NoRoom refl) (read_told piece)) h.said;
      write_answers = λ b before r after h.
          told (both Told (ltb (length before) 140) (other NoRoom refl) (write_told b)) h.said;
      strike_value_answers = λ d n v r v' h. told (strike_value_told d n) h.said;
      strike_form_answers = λ v d n r d' n' h. told (strike_form_told v) h.said;
      clock_answers = λ ms h m s t r h' m' s' t' p. told (clock_told ms) p.said;
      empty_table_answers = λ before r after h. told (make_told before) h.said;
      check_table_answers = λ table r h. rw h.said (both Answers (sound table) (inl refl) (inr (Damaged, refl, λ e. absurd (omega arith))));
      find_order_answers = λ table key p r p' h. told (look_up_told table key) h.said;
      order_at_answers = λ table i before r after h. told (copy_told slots (count_in table) table i before) h.said;
      quote_at_answers = λ table i before r after h. told (copy_told (rows (base_in table)) (row_count_in table) table i before) h.said;
      book_answers = λ before piece r after h. told (book_told before piece) h.said;
      book_all_answers = λ table text answers used booked r after given used' booked' h.
          (told (book_all_told table text answers) h.said, all_answered table text answers used booked r after given used' booked' h);
      sheet_answers = λ table before n r after n' h. told (sheet_told table before) h.said;
      next_piece_answers = λ text at r e' h. h.said;
      read_stays = λ piece before kind r after kind' h k.
          let a = read_answer piece before in
          (lent_stays a h.said k (λ a. record_after a before) (λ n f. refl) h.out, number_stays a h.said k kind_of kind h.told);
      write_stays = λ b before r after h k. lent_stays (write_answer b before) h.said k (λ a. out_after a (record_in b) before) (λ n f. refl) h.out;
      strike_value_stays = λ d n v r v' h k. number_stays (strike_value d n) h.said k (λ x. x) v h.told;
      strike_form_stays = λ v d n r d' n' h k. (
        number_stays (strike_form v) h.said k (λ (x : Strike). x.denominator) d h.denominator,
        number_stays (strike_form v) h.said k (λ (x : Strike). x.digits) n h.digits,
      );
      clock_stays = λ ms h m s t r h' m' s' t' p k. (
        number_stays (clock ms) p.said k (λ (x : Clock). x.hours) h p.hours,
        number_stays (clock ms) p.said k (λ (x : Clock). x.minutes) m p.minutes,
        number_stays (clock ms) p.said k (λ (x : Clock). x.seconds) s p.seconds,
        number_stays (clock ms) p.said k (λ (x : Clock). x.milliseconds) t p.milliseconds,
      );
      empty_table_stays = λ before r after h k. lent_stays (make_answer before) h.said k (λ a. made_from a before) (λ n f. refl) h.out;
      find_order_stays = λ table key p r p' h k. number_stays (look_up_answer table key) h.said k (λ x. x) p h.told;
      order_at_stays = λ table i before r after h k.
          lent_stays (copy_answer slots (count_in table) table i before) h.said k (λ a. copied_from a slots table i before) (λ n f. refl) h.out;
      quote_at_stays = λ table i before r after h k.
          let records = rows (base_in table) in
          lent_stays (copy_answer records (row_count_in table) table i before) h.said k (λ a. copied_from a records table i before) (λ n f. refl) h.out;
      book_stays = λ before piece r after h k. h.out ∙ refusal_stays before piece (sym (refusal (book_answer before piece) h.said k).2);
      book_all_stays = λ table text answers used booked r after given used' booked' h k.
          let a = book_all_answer table text answers in (
            lent_stays a h.said k (λ a. table_from a table text answers) (λ n f. refl) h.out,
            lent_stays a h.said k (λ a. answers_from a table text answers) (λ n f. refl) h.told,
            number_stays a h.said k (λ (u : Used). u.bytes) used h.bytes,
            number_stays a h.said k (λ (u : Used). u.pieces) booked h.pieces,
          );
      sheet_stays = λ table before n r after n' h k.
          let a = sheet_answer table before in
          (lent_stays a h.said k (λ a. sheet_from a table before) (λ n f. refl) h.out, number_stays a h.said k (λ x. x) n h.told);
    }
