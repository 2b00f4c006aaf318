-- What booking does to the bytes of a lent table (docs/LAYOUT.md).
use Rattle.std.specs.Prelude.{ℕ, cond, List, [], ◌∷◌, eqb, length, replicate}
use Rattle.std.proofs.lemmas.List.Edits.{sets}
use Rattle.refusal.specs.Answer.{Answer, value, refused}
use Rattle.layout.specs.Line.{Said, end_of_day, line, read}
use Rattle.layout.specs.declared.Event.{Event}
use Rattle.layout.specs.declared.Event.TheVariants.{Accepted, Executed, Cancelled, Broken, Replaced, Repriced}
use Rattle.layout.specs.declared.Record.{Record}
use Rattle.order.specs.Figure.{executed_by, broken_by, cancelled_by, passed_on}
use Rattle.order.specs.Names.{key_of, elder_key_of}
use Rattle.quote.specs.Quotes.{quote_of, new_row, row_executed_by, row_broken_by}
use Rattle.quote.specs.declared.Quote.{Quote}
use Rattle.day.specs.History.{is_execution}
use Rattle.day.specs.Machine.{find, place, is_seen, find_row, to_quote, refusal_of, with_figures, with_price, new_order}
use Rattle.day.specs.Machine.{book as book_day}
use Rattle.day.specs.Refusals.{subject}
use Rattle.table.specs.Changes.{changed, appended, row_changed, row_appended}
use Rattle.table.specs.Tables.{limit_of, table_in, sound}

abbrev pub event_bytes : Event → Record → List ℕ → List ℕ
event_bytes Accepted r s = appended (new_order r r.contracts 0) s
event_bytes (Executed t) r s = changed (key_of r) (with_figures (λ f. executed_by f r.contracts)) s
event_bytes Cancelled r s = changed (key_of r) (with_figures (λ f. cancelled_by f r.contracts)) s
event_bytes (Broken t) r s = changed (key_of r) (with_figures (λ f. broken_by f r.contracts)) s
event_bytes Replaced r s = appended (new_order r r.contracts (place (elder_key_of r) (table_in s).orders)) (changed (elder_key_of r) (with_figures passed_on) s)
event_bytes Repriced r s = changed (key_of r) (with_price r.price) s

-- 02, 1: "the first E makes it"
abbrev pub execute_bytes : Quote → ℕ → List ℕ → List ℕ
execute_bytes q n s = cond (is_seen (find_row q (table_in s).quotes)) (row_changed q (λ w. row_executed_by w n) s) (row_appended (new_row q n) s)

-- 02, 1: the row of a line that belongs to one
abbrev pub fill_bytes : Event → Record → List ℕ → List ℕ
fill_bytes e r s = cond (is_execution e) (execute_bytes (quote_of r) r.contracts s) (row_changed (quote_of r) (λ w. row_broken_by w r.contracts) s)

abbrev pub accept_bytes : Said → List ℕ → List ℕ
accept_bytes end_of_day s = sets s 4 (1 ∷ [])
accept_bytes (line r) s = cond (to_quote r (find (subject r) (table_in s).orders)) (fill_bytes r.event r s) (event_bytes r.event r s)

-- an undamaged table after a piece that says x
abbrev pub said_bytes : Said → List ℕ → List ℕ
said_bytes x s = cond (eqb (refusal_of (limit_of (length s)) (table_in s) x) 0) (accept_bytes x s) s

abbrev pub read_bytes : Answer Said → List ℕ → List ℕ
read_bytes (value x) s = said_bytes x s
read_bytes (refused n f) s = s

-- 01, Order of checks: booking a piece: 5, 1, 2, 3, then 6 to 13; a refusal changes not one byte
unfoldable pub book_bytes : List ℕ → List ℕ → List ℕ
book_bytes s p = cond (sound s) (read_bytes (read p) s) s

unfoldable pub book_answer : List ℕ → List ℕ → Answer (Unit {0})
book_answer s p = cond (sound s) (book_day (limit_of (length s)) (table_in s) p).answer (refused 5 0)

-- a buffer once the empty table is made in it and pieces are booked, the latest first
abbrev pub bytes_after : List ℕ → List (List ℕ) → List ℕ
bytes_after before [] = sets before 0 (replicate 8 0)
bytes_after before (p ∷ ps) = book_bytes (bytes_after before ps) p
