-- Booking keeps the length of a table, whatever its bytes.
use Prim.Native.Nat.{ℕ}
use mathlib.Core.Path.{◌≡◌, refl, ◌∙◌}
use mathlib.Core.Bool.{Bool, true, false, cond}
use mathlib.Core.List.{List, [], ◌∷◌}
use lib.Dec.{eqb}
use lib.ListN.{length, replicate}
use lib.Seq.{length-sets}
use Rattle.refusal.specs.Answer.{Answer, value, refused}
use Rattle.layout.specs.Line.{Said, end_of_day, line, read}
use Rattle.layout.specs.declared.Event.{Event}
use Rattle.layout.specs.declared.Event.TheVariants.{Accepted, Executed, Cancelled, Broken, Replaced, Repriced}
use Rattle.layout.specs.declared.Record.{Record}
use Rattle.order.specs.Figure.{executed_by, broken_by, cancelled_by, passed_on}
use Rattle.order.specs.Names.{key_of, elder_key_of}
use Rattle.quote.specs.Quotes.{quote_of, new_row, row_executed_by, row_broken_by}
use Rattle.day.specs.History.{is_execution}
use Rattle.day.specs.Machine.{find, place, is_seen, find_row, to_quote, refusal_of, with_figures, with_price, new_order}
use Rattle.day.specs.Refusals.{subject}
use Rattle.table.specs.Changes.{changed, row_changed, row_appended}
use Rattle.table.specs.Tables.{limit_of, table_in, sound}
use Rattle.table.proofs.Holding.{length_changed, length_appended}
use Rattle.table.proofs.RowHolding.{length_row_changed, length_row_appended}
use Rattle.book.specs.Bytes.{event_bytes, execute_bytes, fill_bytes, accept_bytes, read_bytes, book_bytes, bytes_after}

either_way : (b : Bool) (x y : List ℕ) (n : ℕ) → length x ≡ n → length y ≡ n → length (cond b x y) ≡ n
either_way true x y n e f = e
either_way false x y n e f = f

event_length : (e : Event) (r : Record) (s : List ℕ) → length (event_bytes e r s) ≡ length s
event_length Accepted r s = length_appended (new_order r r.contracts 0) s
event_length (Executed t) r s = length_changed (key_of r) (with_figures (λ f. executed_by f r.contracts)) s
event_length Cancelled r s = length_changed (key_of r) (with_figures (λ f. cancelled_by f r.contracts)) s
event_length (Broken t) r s = length_changed (key_of r) (with_figures (λ f. broken_by f r.contracts)) s
event_length Replaced r s =
    let k = elder_key_of r in
    let f = with_figures passed_on in
    length_appended (new_order r r.contracts (place k (table_in s).orders)) (changed k f s) ∙ length_changed k f s
event_length Repriced r s = length_changed (key_of r) (with_price r.price) s

fill_length : (e : Event) (r : Record) (s : List ℕ) → length (fill_bytes e r s) ≡ length s
fill_length e r s =
    let q = quote_of r in
    let n = r.contracts in
    let more = row_changed q (λ w. row_executed_by w n) s in
    let made = row_appended (new_row q n) s in
    let executed =
    either_way (is_seen (find_row q (table_in s).quotes)) more made (length s) (length_row_changed q (λ w. row_executed_by w n) s) (length_row_appended (new_row q n) s) in
    either_way (is_execution e) (execute_bytes q n s) (row_changed q (λ w. row_broken_by w n) s) (length s) executed (length_row_changed q (λ w. row_broken_by w n) s)

accept_length : (x : Said) (s : List ℕ) → length (accept_bytes x s) ≡ length s
accept_length end_of_day s = length-sets s 4 (1 ∷ [])
accept_length (line r) s =
    either_way (to_quote r (find (subject r) (table_in s).orders)) (fill_bytes r.event r s) (event_bytes r.event r s) (length s)
    (fill_length r.event r s) (event_length r.event r s)

read_length : (a : Answer Said) (s : List ℕ) → length (read_bytes a s) ≡ length s
read_length (value x) s = either_way (eqb (refusal_of (limit_of (length s)) (table_in s) x) 0) (accept_bytes x s) s (length s) (accept_length x s) refl
read_length (refused n f) s = refl

pub booked_length : (s p : List ℕ) → length (book_bytes s p) ≡ length s
unfolding book_bytes
booked_length s p = either_way (sound s) (read_bytes (read p) s) s (length s) (read_length (read p) s) refl

-- and so does a day
pub day_length : (before : List ℕ) (ps : List (List ℕ)) → length (bytes_after before ps) ≡ length before
day_length before [] = length-sets before 0 (replicate 8 0)
day_length before (p ∷ ps) = booked_length (bytes_after before ps) p ∙ day_length before ps
