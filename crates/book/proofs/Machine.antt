-- A sound table after a piece: it holds what the state machine says, and it is sound again.
use Prim.Native.Nat.{ℕ, zero, suc, ◌+◌}
use native.Mathlib.Numerals.{add-one}
use native.Mathlib.Omega.{arith}
use mathlib.Core.Path.{◌≡◌, refl, sym, ap, ◌∙◌}
use mathlib.Core.Bool.{Bool, true, false, cond, not, ◌&&◌, false≢true}
use mathlib.Core.List.{List}
use borrow.Author.Tests.{leb-false, eqb-true}
use lib.Dec.{eqb}
use lib.ListN.{length, get_or, length-set}
use Rattle.refusal.specs.Answer.{Answer, value, refused}
use Rattle.layout.specs.Line.{Said, end_of_day, line, read}
use Rattle.layout.specs.declared.Event.{Event}
use Rattle.layout.specs.declared.Event.TheVariants.{Accepted, Executed, Cancelled, Broken, Replaced, Repriced}
use Rattle.layout.specs.declared.Record.{Record}
use Rattle.order.specs.Figure.{passed_on}
use Rattle.order.specs.Names.{elder_key_of}
use Rattle.order.specs.declared.Key.{Key}
use Rattle.order.specs.declared.Order.{Order}
use Rattle.quote.specs.Quotes.{most_rows, names_quote, quote_of, new_row, row_executed_by, row_broken_by}
use Rattle.quote.specs.Rows.{row_place, all_rows_sound}
use Rattle.quote.specs.declared.Quote.{Quote}
use Rattle.quote.specs.declared.QuoteRow.{QuoteRow}
use Rattle.run.proofs.Tests.{both}
use Rattle.day.specs.Damage.{undamaged}
use Rattle.day.specs.History.{is_new, is_execution}
use Rattle.day.specs.Machine.{find, is_found, place, amend, none, find_row, amend_row, to_quote, with_figures, new_order, refusal_of, book_event, execute_row, book_fill, accept, book_read}
use Rattle.day.specs.Quotes.{is_fill}
use Rattle.day.specs.Refusals.{subject}
use Rattle.day.specs.Tables.{with_orders, with_quotes, Booked}
use Rattle.day.specs.Machine.{book as book_day}
use Rattle.day.proofs.Admitted.{Admitted, admitted, Spoken, spoken}
use Rattle.day.proofs.Letters.{fill_old}
use Rattle.day.proofs.Orders.{Finds, stands, length_amend}
use Rattle.day.proofs.Sound.{book_undamaged, unbooked}
use Rattle.day.proofs.Undamaged.{apart_rows}
use Rattle.quote_slot.proofs.Room.{row_fits}
use Rattle.table.specs.Changes.{changed, row_changed}
use Rattle.table.specs.Tables.{limit_of, table_in, sound}
use Rattle.table.proofs.Fitting.{AllFit, all_fit, last_fits, others_fit, row_sound, last_row_fits}
use Rattle.table.proofs.Holding.{Holds, length_changed, changed_holds, appended_holds, over_holds}
use Rattle.table.proofs.RowHolding.{row_changed_holds, row_appended_holds}
use Rattle.table.proofs.RowLookups.{at_seen, amend_row_at, none_seen}
use Rattle.table.proofs.Sound.{sound_apart, holds_sound}
use Rattle.book.specs.Bytes.{event_bytes, execute_bytes, fill_bytes, accept_bytes, read_bytes, book_bytes, book_answer}
use Rattle.book.proofs.Lengths.{booked_length}

-- ---- an accepted line

module _ {s : List ℕ} (h : Holds s (table_in s)) where
  abbrev os : List Order
  os = (table_in s).orders

  found_holds : {k : Key} {o : Order} (f : Order → Order) → Finds k os o → AllFit (amend k f os)
      → Holds (changed k f s) (with_orders (amend k f os) (table_in s))
  found_holds {k} f e fit = let (i, p) = stands f e in changed_holds k f i h (omega (arith, p.numbered)) fit

  event_holds : {r : Record} → Admitted (limit_of (length s)) os (table_in s).quotes r → (e : Event) → r.event ≡ e
      → (is_new e ≡ false → (o : Order) × Spoken os r o) → AllFit (book_event e r os)
      → Holds (event_bytes e r s) (with_orders (book_event e r os) (table_in s))
  event_holds {r} a Accepted q theirs fit =
      let room = leb-false (limit_of (length s)) (length os) (rw q at a.room) in
      appended_holds s (new_order r r.contracts 0) h room (last_fits os (new_order r r.contracts 0) fit)
  event_holds a (Executed t) q theirs fit = let (o, p) = theirs refl in found_holds _ (rw q at p.finds) fit
  event_holds a Cancelled q theirs fit = let (o, p) = theirs refl in found_holds _ (rw q at p.finds) fit
  event_holds a (Broken t) q theirs fit = let (o, p) = theirs refl in found_holds _ (rw q at p.finds) fit
  event_holds {r} a Replaced q theirs fit =
      let (o, p) = theirs refl in
      let k = elder_key_of r in
      let f = with_figures passed_on in
      let young = new_order r r.contracts (place k os) in
      let elders = found_holds f (rw q at p.finds) (others_fit (amend k f os) young fit) in
      let room = leb-false (limit_of (length s)) (length os) (rw q at a.room) in
      appended_holds (changed k f s) young elders (rw (length_amend k f os, length_changed k f s) room) (last_fits (amend k f os) young fit)
  event_holds a Repriced q theirs fit = let (o, p) = theirs refl in found_holds _ (rw q at p.finds) fit

  -- ---- 02, 1: one that belongs to a quote row

  abbrev ws : List QuoteRow
  ws = (table_in s).quotes

  fill_holds : {r : Record} → Admitted (limit_of (length s)) os ws r → to_quote r (find (subject r) os) ≡ true → all_rows_sound (book_fill r.event r ws) ≡ true
      → Holds (fill_bytes r.event r s) (with_quotes (book_fill r.event r ws) (table_in s))
  fill_holds {r} a quoted all = go (is_execution r.event) refl (row_place q ws) refl all
    where
      q : Quote
      q = quote_of r

      -- a C that belongs to a quote row finds it
      unfound : is_execution r.event ≡ false → find_row q ws ≡ none → ⊥
      unfound e u =
          let (front, names) = both (is_fill r.event && not (is_found (find (subject r) os))) (names_quote r.token) quoted in
          let (fill, unknown) = both (is_fill r.event) (not (is_found (find (subject r) os))) front in
          false≢true (sym (rw (quoted, u, e, unknown, fill_old r.event fill) at a.known))

      row_holds : (f : QuoteRow → QuoteRow) (i : ℕ) → row_place q ws ≡ i + 1 → all_rows_sound (amend_row q f ws) ≡ true
          → Holds (row_changed q f s) (with_quotes (amend_row q f ws) (table_in s))
      row_holds f i p sound =
          let long : (w : QuoteRow) → length (amend_row q f ws) ≡ length ws = λ w. ap length (amend_row_at q f ws i w p) ∙ length-set ws i (f (get_or ws i w)) in
          row_changed_holds q f i h p (λ w. row_fits _ (row_sound (amend_row q f ws) i w sound (omega (arith, long w, (at_seen q ws i w p).0))))

      go : (e : Bool) → is_execution r.event ≡ e → (p : ℕ) → row_place q ws ≡ p
          → all_rows_sound (cond e (execute_row q r.contracts ws) (amend_row q (λ w. row_broken_by w r.contracts) ws)) ≡ true
          → Holds (cond e (execute_bytes q r.contracts s) (row_changed q (λ w. row_broken_by w r.contracts) s))
          (with_quotes (cond e (execute_row q r.contracts ws) (amend_row q (λ w. row_broken_by w r.contracts) ws)) (table_in s))
      go true e zero p sound =
          let unseen = none_seen q ws p in
          let room = leb-false most_rows (length ws) (rw (quoted, unseen, e) at a.row_room) in
          rw unseen (row_appended_holds s (new_row q r.contracts) h room (last_row_fits ws (new_row q r.contracts) (rw unseen at sound)))
      go true e (suc i) p sound =
          let at = p ∙ sym (add-one i) in
          let there = (at_seen q ws i (new_row q 0) at).1 in
          rw there (row_holds (λ w. row_executed_by w r.contracts) i at (rw there at sound))
      go false e zero p sound = absurd (unfound e (none_seen q ws p))
      go false e (suc i) p sound = row_holds (λ w. row_broken_by w r.contracts) i (p ∙ sym (add-one i)) sound

-- ---- a piece

module _ {s : List ℕ} (h : Holds s (table_in s)) where
  abbrev limit : ℕ
  limit = limit_of (length s)

  -- what the state machine says once the test for a refusal came out as b
  abbrev after : Said → Bool → Booked
  after x b =
      cond b (record { table = accept x (table_in s); answer = value tt })
      (record { table = table_in s; answer = refused (refusal_of limit (table_in s) x) 0 })

  -- b says whether a line belongs to a quote row
  line_holds : (r : Record) → Admitted limit (table_in s).orders (table_in s).quotes r → undamaged limit (accept (line r) (table_in s)) ≡ true
      → (b : Bool) → to_quote r (find (subject r) (table_in s).orders) ≡ b
      → Holds (cond b (fill_bytes r.event r s) (event_bytes r.event r s)) (accept (line r) (table_in s))
  line_holds r a u true q =
      let same = unbooked r (table_in s).orders r.event refl q in
      rw (q, same) (fill_holds h a q (rw q at (apart_rows limit (accept (line r) (table_in s)) u).sound))
  line_holds r a u false q =
      rw q (event_holds h a r.event refl (λ n. spoken n q a) (all_fit (length s) (accept (line r) (table_in s)) u))

  said_holds : (x : Said) (b : Bool) → eqb (refusal_of limit (table_in s) x) 0 ≡ b → undamaged limit (after x b).table ≡ true
      → Holds (cond b (accept_bytes x s) s) (after x b).table
  said_holds x false z u = h
  said_holds end_of_day true z u = over_holds h
  said_holds (line r) true z u =
      let a = admitted limit (table_in s) r (eqb-true (refusal_of limit (table_in s) (line r)) 0 z) in
      line_holds r a u (to_quote r (find (subject r) (table_in s).orders)) refl

  read_holds : (a : Answer Said) → undamaged limit (book_read limit (table_in s) a).table ≡ true
      → Holds (read_bytes a s) (book_read limit (table_in s) a).table
  read_holds (value x) u = said_holds x (eqb (refusal_of limit (table_in s) x) 0) refl u
  read_holds (refused n f) u = h

-- ---- booking

module _ (s p : List ℕ) (e : sound s ≡ true) where
  abbrev booked : Booked
  booked = book_day (limit_of (length s)) (table_in s) p

  booked_undamaged : undamaged (limit_of (length s)) booked.table ≡ true
  booked_undamaged = book_undamaged (limit_of (length s)) (table_in s) p (sound_apart s e).orders

  booked_holds : Holds (book_bytes s p) booked.table
  unfolding book_bytes
  booked_holds = rw e (read_holds (sound_apart s e).bytes (read p) booked_undamaged)

  pub booked_table : table_in (book_bytes s p) ≡ booked.table
  booked_table = booked_holds.says

  pub booked_answer : book_answer s p ≡ booked.answer
  unfolding book_answer
  booked_answer = rw e

  pub booked_sound : sound (book_bytes s p) ≡ true
  booked_sound = holds_sound booked_holds (rw (booked_length s p) booked_undamaged)
