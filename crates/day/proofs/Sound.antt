-- Booking leaves an undamaged table undamaged, so every table reached from the empty one is.
use Prim.Native.Nat.{ℕ, ◌-◌, ◌<◌}
use native.Mathlib.Omega.{arith}
use mathlib.Core.Path.{◌≡◌, refl, sym, ◌∙◌}
use mathlib.Core.Bool.{Bool, true, false, cond, not, ◌&&◌, or-false, false≢true}
use mathlib.Core.List.{List, [], ◌∷◌, ◌++◌}
use borrow.Author.Tests.{leb-false, ltb-false, eqb-false, not-true}
use lib.Dec.{leb-zero}
use lib.ListN.{length}
use Rattle.refusal.specs.Answer.{value}
use Rattle.layout.specs.Demand2.{LawfulRecord}
use Rattle.layout.specs.Line.{Said, end_of_day, line, read}
use Rattle.layout.specs.declared.Event.{Event}
use Rattle.layout.specs.declared.Event.TheVariants.{Accepted, Executed, Cancelled, Broken, Replaced, Repriced}
use Rattle.layout.specs.declared.Record.{Record}
use Rattle.layout.proofs.Demand2.{demand2}
use Rattle.order.specs.Figure.{executed_by, broken_by, cancelled_by, passed_on}
use Rattle.order.specs.Names.{key_of}
use Rattle.order.specs.declared.Key.{Key}
use Rattle.order.specs.declared.Order.{Order}
use Rattle.quote.specs.Quotes.{names_quote, quote_of, row_broken_by}
use Rattle.quote.specs.declared.QuoteRow.{QuoteRow}
use Rattle.day.specs.Damage.{elders_of, undamaged}
use Rattle.day.specs.Demand3.{table_after}
use Rattle.day.specs.History.{is_new, is_execution}
use Rattle.day.specs.Machine.{find, is_found, amend, place, amend_row, to_quote, execute_row, book_fill, refusal_of, with_figures, new_order, book_event, accept, book}
use Rattle.day.specs.Quotes.{is_fill}
use Rattle.day.specs.Refusals.{subject}
use Rattle.day.specs.Tables.{Table}
use Rattle.run.proofs.Tests.{both}
use Rattle.day.proofs.Admitted.{Admitted, admitted, Spoken, spoken}
use Rattle.day.proofs.Booking.{book_keeps}
use Rattle.day.proofs.Figures.{executed_sound, cancelled_sound, broken_sound, passed_sound}
use Rattle.day.proofs.Lawful.{contracts_sized, new_sound}
use Rattle.day.proofs.Orders.{Finds, amend_absent, stands, length_amend, map_amend, open_unclaimed}
use Rattle.day.proofs.QuoteRows.{RowsUndamaged, executed_keeps, broken_keeps}
use Rattle.day.proofs.Undamaged.{Undamaged, apart, apart_rows, whole, refigured, repriced, behind}

-- ---- an accepted line

module _ {limit : ℕ} {os : List Order} {ws : List QuoteRow} {r : Record} (l : LawfulRecord r) (a : Admitted limit os ws r) (u : Undamaged limit os) where
  -- the elder has nothing open any more, and nobody else has it as elder, since something was open
  replaced_keeps : {k : Key} {o : Order} → Finds k os o → (o.figures.«open» ≡ 0 → ⊥) → length os < limit
      → Undamaged limit (amend k (with_figures passed_on) os ++ (new_order r r.contracts (place k os) ∷ []))
  replaced_keeps {k} {o} h some room =
      let f = with_figures passed_on in
      let (i, p) = stands f h in
      let same : elders_of (amend k f os) ≡ elders_of os = map_amend k f (λ (x : Order). x.elder) (λ x. refl) os in
      let n = length_amend k f os in
      let before : place k os - 1 ≡ i = omega (arith, p.numbered) in
      behind (new_order r r.contracts (place k os)) (refigured h u passed_on (λ z. refl) (passed_sound o.figures)) (omega arith)
      (omega (arith, p.numbered, p.inside))
      (λ l. rw (same, p.numbered) (open_unclaimed os i (λ z. some (sym p.before ∙ z)) (elders_of os) u.shut))
      (λ l. rw before p.after)
      (new_sound r l r.contracts (place k os) (contracts_sized r l))

  event_keeps : (e : Event) → r.event ≡ e → (is_new e ≡ false → (o : Order) × Spoken os r o) → Undamaged limit (book_event e r os)
  event_keeps Accepted q theirs =
      behind (new_order r r.contracts 0) u (leb-false limit (length os) (rw q at a.room)) (omega arith) (λ p. absurd (omega arith)) (λ p. absurd (omega arith))
      (new_sound r l r.contracts 0 (contracts_sized r l))
  event_keeps (Executed t) q theirs =
      let (o, s) = theirs refl in
      let n = ltb-false o.figures.«open» r.contracts (rw (q, or-false) at s.in_open) in
      refigured (rw q at s.finds) u (λ f. executed_by f r.contracts) (λ z. omega arith) (executed_sound o.figures r.contracts n)
  event_keeps Cancelled q theirs =
      let (o, s) = theirs refl in
      let n = ltb-false o.figures.«open» r.contracts (rw (q, or-false) at s.in_open) in
      refigured (rw q at s.finds) u (λ f. cancelled_by f r.contracts) (λ z. omega arith) (cancelled_sound o.figures r.contracts n)
  event_keeps (Broken t) q theirs =
      let (o, s) = theirs refl in
      let n = ltb-false (o.figures.executed - o.figures.broken) r.contracts (rw q at s.in_executed) in
      refigured (rw q at s.finds) u (λ f. broken_by f r.contracts) (λ z. z) (broken_sound o.figures r.contracts n)
  event_keeps Replaced q theirs =
      let (o, s) = theirs refl in
      replaced_keeps (rw q at s.finds) (eqb-false o.figures.«open» 0 (rw q at s.in_open)) (leb-false limit (length os) (rw q at a.room))
  event_keeps Repriced q theirs =
      let (o, s) = theirs refl in
      repriced (rw q at s.finds) u r.price (l.fields 22 (omega arith) (omega arith))

-- ---- 02, 1: an accepted line that belongs to a quote row

-- it changes no order
pub unbooked : (r : Record) (os : List Order) (e : Event) → r.event ≡ e → to_quote r (find (subject r) os) ≡ true → book_event e r os ≡ os
unbooked r os Accepted q b = absurd (false≢true (rw q at b))
unbooked r os (Executed t) q b = amend_absent (key_of r) _ os (not-true _ (both (not (is_found (find (key_of r) os))) (names_quote r.token) (rw q at b)).0)
unbooked r os Cancelled q b = absurd (false≢true (rw q at b))
unbooked r os (Broken t) q b = amend_absent (key_of r) _ os (not-true _ (both (not (is_found (find (key_of r) os))) (names_quote r.token) (rw q at b)).0)
unbooked r os Replaced q b = absurd (false≢true (rw q at b))
unbooked r os Repriced q b = absurd (false≢true (rw q at b))

module _ {limit : ℕ} {os : List Order} {ws : List QuoteRow} {r : Record} (l : LawfulRecord r) (a : Admitted limit os ws r) (u : RowsUndamaged ws) where
  rows_keep : (t : Bool) → to_quote r (find (subject r) os) ≡ t → RowsUndamaged (cond t (book_fill r.event r ws) ws)
  rows_keep false b = u
  rows_keep true b =
      let fill = is_fill r.event in
      let new = not (is_found (find (subject r) os)) in
      let (front, names) = both (fill && new) (names_quote r.token) b in
      go (is_execution r.event) refl names (both fill new front).0
    where
      go : (e : Bool) → is_execution r.event ≡ e → names_quote r.token ≡ true → is_fill r.event ≡ true
          → RowsUndamaged (cond e (execute_row (quote_of r) r.contracts ws) (amend_row (quote_of r) (λ w. row_broken_by w r.contracts) ws))
      go true e names f = executed_keeps r l names u e (rw b at a.row_room)
      go false e names f = broken_keeps r l names u (rw e at f) (rw b at a.row_executed)

-- ---- booking

accept_undamaged : (limit : ℕ) (t : Table) (p : List ℕ) (x : Said) → read p ≡ value x → refusal_of limit t x ≡ 0
    → undamaged limit t ≡ true → undamaged limit (accept x t) ≡ true
accept_undamaged limit t p end_of_day e z u = u
accept_undamaged limit t p (line r) e z u =
    let a = admitted limit t r z in
    let l = (demand2.read_back p r e).0 in
    whole limit (accept (line r) t) (orders_keep l a (to_quote r (find (subject r) t.orders)) refl) (rows_keep l a (apart_rows limit t u) _ refl)
  where
    orders_keep : LawfulRecord r → Admitted limit t.orders t.quotes r → (b : Bool) → to_quote r (find (subject r) t.orders) ≡ b
        → Undamaged limit (book_event r.event r t.orders)
    orders_keep l a true b = rw (unbooked r t.orders r.event refl b) (apart limit t u)
    orders_keep l a false b = event_keeps l a (apart limit t u) r.event refl (λ n. spoken n b a)

pub book_undamaged : (limit : ℕ) (t : Table) (p : List ℕ) → undamaged limit t ≡ true → undamaged limit (book limit t p).table ≡ true
book_undamaged limit t p u = book_keeps limit (λ (s : Table). undamaged limit s ≡ true) t p (λ x e z. accept_undamaged limit t p x e z u) u

pub sound : (limit : ℕ) (ps : List (List ℕ)) → undamaged limit (table_after (book limit) ps) ≡ true
sound limit [] = rw (leb-zero, leb-zero)
sound limit (p ∷ ps) = book_undamaged limit (table_after (book limit) ps) p (sound limit ps)
