-- What holds of a line that no refusal from 6 to 13 applies to, and of the order that it speaks of.
use Prim.Native.Nat.{ℕ}
use mathlib.Core.Path.{◌≡◌, refl, sym, ◌∙◌}
use mathlib.Core.Bool.{Bool, false, not, ◌&&◌, and-true}
use mathlib.Core.List.{List}
use borrow.Author.Tests.{not-false}
use lib.Dec.{leb}
use lib.ListN.{length}
use Rattle.layout.specs.Line.{line}
use Rattle.layout.specs.declared.Record.{Record}
use Rattle.order.specs.Names.{key_of}
use Rattle.order.specs.declared.Order.{Order}
use Rattle.quote.specs.Quotes.{quote_of}
use Rattle.quote.specs.declared.QuoteRow.{QuoteRow}
use Rattle.day.specs.History.{is_new, is_maker}
use Rattle.day.specs.Machine.{found, find, is_found, not_open, not_executed, Seen, find_row, to_quote, row_there, row_not_executed, row_full, checks, refusal_of}
use Rattle.day.specs.Tables.{Table}
use Rattle.day.specs.Refusals.{subject}
use Rattle.run.proofs.Tests.{neither}
use Rattle.day.proofs.Chain.{test_of, passed}
use Rattle.day.proofs.Orders.{Finds, finds, finds_found}

-- a test of the row of a line that belongs to one, as `ofRow` of specs/Machine.antt has it
abbrev pub on_row : (Record → ℕ → Seen → Bool) → List Order → List QuoteRow → Record → Bool
on_row test os ws r = to_quote r (find (subject r) os) && test r (length ws) (find_row (quote_of r) ws)

-- the tests behind 7, 8, 10, 11, 12 and 13 failed
pub record Admitted (limit : ℕ) (os : List Order) (ws : List QuoteRow) (r : Record) : Type 0 where
  pub fresh : (is_maker r.event && is_found (find (key_of r) os)) ≡ false
  pub known : (not (is_new r.event) && not (is_found (find (subject r) os)) && not (on_row row_there os ws r)) ≡ false
  pub in_open : (not (is_new r.event) && not_open r (find (subject r) os)) ≡ false
  pub in_executed : (not (is_new r.event) && not_executed r (find (subject r) os)) ≡ false
  pub row_executed : on_row row_not_executed os ws r ≡ false
  pub room : (is_maker r.event && leb limit (length os)) ≡ false
  pub row_room : on_row row_full os ws r ≡ false

pub admitted : (limit : ℕ) (t : Table) (r : Record) → refusal_of limit t (line r) ≡ 0 → Admitted limit t.orders t.quotes r
admitted limit t r e =
    let failed : (n : ℕ) → test_of t (line r) n (checks limit) ≡ false = λ n. passed t (line r) n (checks limit) refl e in
    let executed = neither (not (is_new r.event) && not_executed r (find (subject r) t.orders)) (on_row row_not_executed t.orders t.quotes r) (failed 11) in
    record {
      fresh = failed 7;
      known = failed 8;
      in_open = failed 10;
      in_executed = executed.0;
      row_executed = executed.1;
      room = failed 12;
      row_room = failed 13;
    }

-- the order that a line speaks of that is no A and belongs to no quote row
pub record Spoken (os : List Order) (r : Record) (o : Order) : Type 0 where
  pub finds : Finds (subject r) os o
  pub in_open : not_open r (found o) ≡ false
  pub in_executed : not_executed r (found o) ≡ false

pub spoken : {limit : ℕ} {os : List Order} {ws : List QuoteRow} {r : Record} → is_new r.event ≡ false → to_quote r (find (subject r) os) ≡ false
    → Admitted limit os ws r
    → (o : Order) × Spoken os r o
spoken {os = os} {r = r} e q a =
    let is = is_found (find (subject r) os) in
    let (o, h) = finds (subject r) os (not-false is (sym (and-true (not is)) ∙ (rw (q, e) at a.known))) in
    let f = finds_found h in (
      o,
      record { finds = h; in_open = rw (e, f) at a.in_open; in_executed = rw (e, f) at a.in_executed },
    )
