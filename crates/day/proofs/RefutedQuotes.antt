-- 02, 1: each booking and each sheet that is wrong about quote rows breaks demand 3, by a witness.
use Prim.Native.Nat.{ℕ, zero, suc, ◌+◌, ◌≤◌}
use native.Mathlib.Omega.{arith}
use mathlib.Core.Path.{◌≡◌, refl, sym, ap, ◌∙◌}
use mathlib.Core.List.{List, [], ◌∷◌, ◌++◌}
use borrow.Author.Tests.{lt-leb, le-leb, ne_eqb}
use lib.ListN.{length, length-append}
use Rattle.refusal.specs.Answer.{value, refused}
use Rattle.layout.specs.Line.{line, read, line_of, unlawful}
use Rattle.layout.specs.declared.Event.{Event}
use Rattle.layout.specs.declared.Event.TheVariants.{Accepted, Executed, Broken}
use Rattle.layout.specs.declared.Record.{Record}
use Rattle.order.specs.Names.{key_of}
use Rattle.quote.specs.Quotes.{most_rows, names_quote, quote_of, new_row, row_broken_by}
use Rattle.quote.specs.declared.QuoteRow.{QuoteRow}
use Rattle.day.specs.Case.{fill, quoting}
use Rattle.day.specs.Demand3.{Demand3, table_after, answer_to}
use Rattle.day.specs.Listing.{Sheet}
use Rattle.day.specs.Machine.{none, find, find_row, new_order, book_said, book_read, book as our_book}
use Rattle.day.specs.Settled.{Same}
use Rattle.day.specs.Tables.{Table, empty, with_quotes, Booked}
use Rattle.day.specs.Walk.{sheet_of}
use Rattle.day.specs.Wrong.{one_row, InheritsFills, MixesSides, ForgetsBroken, DropsInSilence, ShowsRowsTwice}
use Rattle.layout.proofs.Answers.{written_reads, none_unlawful}
use Rattle.quote.proofs.Named.{row_number}
use Rattle.day.proofs.Demand3.{demand3}
use Rattle.day.proofs.Quotes.{find_append}
use Rattle.day.proofs.Settled.{settled}

-- a line of 30 whose token is an id, by side and strike
abbrev quoting_on : Event → (side strike : ℕ) → Record
quoting_on event side strike =
    let r = quoting event 1 30 in
    record {
      timestamp = r.timestamp;
      event = r.event;
      firm = r.firm;
      capacity = r.capacity;
      position = r.position;
      account = r.account;
      member = r.member;
      clearing = r.clearing;
      source = r.source;
      token = r.token;
      replaced = r.replaced;
      reference = r.reference;
      side = side;
      contracts = r.contracts;
      root = r.root;
      month = r.month;
      date = r.date;
      year = r.year;
      denominator = r.denominator;
      strike = strike;
      price = r.price;
    }

-- E, C and A of a buy, and E of a sell
abbrev bought : Record
bought = quoting_on (Executed fill) 66 205750

abbrev broken : Record
broken = quoting_on (Broken fill) 66 205750

abbrev order : Record
order = quoting_on Accepted 66 205750

abbrev sold : Record
sold = quoting_on (Executed fill) 83 205750

-- the row of the first
abbrev row : QuoteRow
row = new_row (quote_of bought) 30

module _ {limit : ℕ} {book : Table → List ℕ → Booked} {sheet : Table → Sheet} (demand : Demand3 limit book sheet) where
  -- whatever meets the demand does what ours does
  ours : Same book (our_book limit) sheet sheet_of
  ours = settled limit book (our_book limit) sheet sheet_of demand (demand3 limit)

  booked : (ps : List (List ℕ)) (p : List ℕ) → (book (table_after (our_book limit) ps) p).table ≡ table_after (our_book limit) (p ∷ ps)
  booked ps p = ap (λ t. (book t p).table) (sym (ours.tables ps)) ∙ ours.tables (p ∷ ps)

  answered : (ps : List (List ℕ)) (p : List ℕ) → (book (table_after (our_book limit) ps) p).answer ≡ answer_to (our_book limit) ps p
  answered ps p = ap (λ t. (book t p).answer) (sym (ours.tables ps)) ∙ ours.answers ps p

  -- E of 30, then A with its key: executed is 0
  pub inherits_fills : 1 ≤ limit → InheritsFills book → ⊥
  unfolding read line_of names_quote most_rows
  inherits_fills room inherits =
      let o = new_order order 30 0 in
      let made = booked (line_of bought ∷ []) (line_of order) in
      let e = ap (λ (t : Table). find (key_of order) t.orders) (rw (lt-leb limit 0, table_after) at made) in
      omega (arith, inherits row order o refl e)

  -- E of 30 on each side: two rows
  pub mixes_sides : MixesSides book → ⊥
  unfolding read line_of names_quote most_rows
  mixes_sides mixes =
      omega (arith, mixes row sold refl refl, ap (λ (t : Table). length t.quotes) (booked (line_of bought ∷ []) (line_of sold)))

  -- E of 30: one row
  pub shows_rows_twice : ShowsRowsTwice sheet → ⊥
  unfolding read line_of names_quote most_rows
  shows_rows_twice twice =
      let e = ap sheet (sym (ours.tables (line_of bought ∷ []))) ∙ ours.sheets (line_of bought ∷ []) in
      omega (arith, ap length (twice (one_row row)), ap (λ (s : Sheet). length s.quotes) e)

  -- E of 30, then C of 30: another C of 30 is refused 11
  pub forgets_broken : ForgetsBroken book → ⊥
  unfolding read line_of names_quote most_rows
  forgets_broken forgets = forgets (row_broken_by row 30) broken refl (omega arith) (answered (line_of broken ∷ line_of bought ∷ []) (line_of broken))

-- ---- a day with as many rows as a table has room for: one quote on so many strikes

abbrev nth : ℕ → Record
nth n = quoting_on (Executed fill) 66 (100000 + n)

abbrev lines_of : ℕ → List (List ℕ)
lines_of zero = []
lines_of (suc n) = line_of (nth n) ∷ lines_of n

abbrev rows_of : ℕ → List QuoteRow
rows_of zero = []
rows_of (suc n) = rows_of n ++ (new_row (quote_of (nth n)) 30 ∷ [])

nth_reads : (n : ℕ) → n ≤ most_rows → read (line_of (nth n)) ≡ value (line (nth n))
unfolding unlawful
nth_reads n h = written_reads (nth n) ((none_unlawful (nth n)).0 (rw (le-leb 100000 (100000 + n) (omega arith), le-leb (100000 + n) 999999 (omega (arith, row_number)))))

-- the strike tells it from the rows before it
not_there : (m n : ℕ) → n ≤ m → find_row (quote_of (nth m)) (rows_of n) ≡ none
not_there m zero h = refl
not_there m (suc n) h =
    rw (find_append (quote_of (nth m)) (rows_of n) (new_row (quote_of (nth n)) 30 ∷ []), not_there m n (omega arith), ne_eqb (100000 + n) (100000 + m) (omega arith))

row_count : (n : ℕ) → length (rows_of n) ≡ n
row_count zero = refl
row_count (suc n) = rw (length-append, row_count n) (omega arith)

module _ (limit : ℕ) where
  one_more : (n : ℕ) (t : Table) → n ≤ most_rows → t ≡ with_quotes (rows_of n) empty
      → our_book limit t (line_of (nth n)) ≡ book_said limit (with_quotes (rows_of n) empty) (line (nth n))
  one_more n t h e =
      ap (λ (u : Table). our_book limit u (line_of (nth n))) e ∙ ap (book_read limit (with_quotes (rows_of n) empty)) (nth_reads n h)

  filled : (n : ℕ) → n ≤ most_rows → table_after (our_book limit) (lines_of n) ≡ with_quotes (rows_of n) empty
  unfolding names_quote
  filled zero h = refl
  filled (suc n) h =
      ap (λ (b : Booked). b.table) (one_more n _ (omega arith) (filled n (omega arith)))
      ∙ rw (not_there n n (omega arith), row_count n, lt-leb most_rows n (omega arith))

  full : answer_to (our_book limit) (lines_of most_rows) (line_of (nth most_rows)) ≡ refused 13 0
  unfolding names_quote
  full =
      ap (λ (b : Booked). b.answer) (one_more most_rows _ (omega arith) (filled most_rows (omega arith)))
      ∙ rw (not_there most_rows most_rows (omega arith), row_count most_rows, le-leb most_rows most_rows (omega arith))

-- and one more: refused 13
pub drops_in_silence : {limit : ℕ} {book : Table → List ℕ → Booked} {sheet : Table → Sheet} → Demand3 limit book sheet → DropsInSilence book → ⊥
drops_in_silence {limit} demand drops =
    let rows = ap (λ (t : Table). t.quotes) (filled limit most_rows (omega arith)) in
    drops (table_after (our_book limit) (lines_of most_rows)) (nth most_rows) (rw rows (omega (arith, row_count most_rows))) (rw (rows, not_there most_rows most_rows (omega arith)))
    (answered demand (lines_of most_rows) (line_of (nth most_rows)) ∙ full limit)
