-- The state machine of the day: how a piece is booked. Nobody has to believe this file: demand 3 fixes what it may answer.
use Rattle.std.specs.Prelude.{ℕ, ◌+◌, ◌-◌, Bool, true, false, cond, not, ◌&&◌, ◌||◌, List, [], ◌∷◌, ◌++◌, ltb, leb, eqb, length}
use Rattle.run.specs.Found.{one_more}
use Rattle.refusal.specs.Answer.{Answer, value, refused}
use Rattle.layout.specs.Line.{Said, end_of_day, line, read}
use Rattle.layout.specs.declared.Event.{Event}
use Rattle.layout.specs.declared.Event.TheVariants.{Accepted, Executed, Cancelled, Broken, Replaced, Repriced}
use Rattle.layout.specs.declared.Record.{Record}
use Rattle.order.specs.Figure.{fresh_by, executed_by, broken_by, cancelled_by, passed_on}
use Rattle.order.specs.Names.{key_of, elder_key_of, series_of, same_key, same_series}
use Rattle.order.specs.declared.Figures.{Figures}
use Rattle.order.specs.declared.Key.{Key}
use Rattle.order.specs.declared.Order.{Order}
use Rattle.quote.specs.Quotes.{most_rows, most_executed, names_quote, quote_of, same_quote, new_row, row_executed_by, row_broken_by}
use Rattle.quote.specs.declared.Quote.{Quote}
use Rattle.quote.specs.declared.QuoteRow.{QuoteRow}
use Rattle.day.specs.History.{is_new, is_execution, is_cancel, is_break, is_replace, is_reprice, is_maker}
use Rattle.day.specs.Quotes.{is_fill}
use Rattle.day.specs.Refusals.{subject}
use Rattle.day.specs.Tables.{Table, with_orders, with_quotes, with_over, Booked}

pub data Found : Type 0 where
  nobody : Found
  found : Order → Found

-- 01, Orders and their figures: a lookup by key means the earliest order with it
abbrev pub find : Key → List Order → Found
find k [] = nobody
find k (o ∷ os) = cond (same_key o.key k) (found o) (find k os)

-- one more than its place, or 0
abbrev pub place : Key → List Order → ℕ
place k [] = 0
place k (o ∷ os) = cond (same_key o.key k) 1 (one_more (place k os))

-- the earliest order with a key is changed, if there is one
abbrev pub amend : Key → (Order → Order) → List Order → List Order
amend k f [] = []
amend k f (o ∷ os) = cond (same_key o.key k) (f o ∷ os) (o ∷ amend k f os)

-- ---- 02, 1: the row of a quote

pub data Seen : Type 0 where
  none : Seen
  seen : QuoteRow → Seen

abbrev pub is_seen : Seen → Bool
is_seen none = false
is_seen (seen w) = true

abbrev pub find_row : Quote → List QuoteRow → Seen
find_row q [] = none
find_row q (w ∷ ws) = cond (same_quote w.quote q) (seen w) (find_row q ws)

-- it is changed, if there is one
abbrev pub amend_row : Quote → (QuoteRow → QuoteRow) → List QuoteRow → List QuoteRow
amend_row q f [] = []
amend_row q f (w ∷ ws) = cond (same_quote w.quote q) (f w ∷ ws) (w ∷ amend_row q f ws)

-- ---- the tests behind refusals 8 to 11: of a line, and of the order that a lookup found for it

abbrev pub is_found : Found → Bool
is_found nobody = false
is_found (found o) = true

abbrev pub missing : Record → Found → Bool
missing r o = not (is_found o)

abbrev pub differs : Record → Found → Bool
differs r nobody = false
differs r (found o) = not (eqb o.side r.side && same_series o.series (series_of r))

abbrev pub not_open : Record → Found → Bool
not_open r nobody = false
not_open r (found o) =
    (is_execution r.event || is_cancel r.event) && ltb o.figures.«open» r.contracts
    || (is_replace r.event || is_reprice r.event) && eqb o.figures.«open» 0

abbrev pub not_executed : Record → Found → Bool
not_executed r nobody = false
not_executed r (found o) = is_break r.event && ltb (o.figures.executed - o.figures.broken) r.contracts

-- ---- 02, 1: the tests behind refusals 8, 11 and 13: of a line that belongs to a quote row, and of that row

-- an E or C for which no order was found, and whose token names a quote
abbrev pub to_quote : Record → Found → Bool
to_quote r o = is_fill r.event && not (is_found o) && names_quote r.token

-- each by how many rows there are, and by the row that is seen; an E makes the row if it must
abbrev pub row_there : Record → ℕ → Seen → Bool
row_there r n w = is_execution r.event || is_seen w

abbrev pub row_not_executed : Record → ℕ → Seen → Bool
row_not_executed r n none = false
row_not_executed r n (seen w) = is_break r.event && ltb (w.executed - w.broken) r.contracts

abbrev pub row_full : Record → ℕ → Seen → Bool
row_full r n none = is_execution r.event && leb most_rows n
row_full r n (seen w) = is_execution r.event && ltb most_executed (w.executed + r.contracts)

-- ---- 01, Order of checks: 6 to 12, then 13

-- a refusal's number, and its test of a table and of what a piece says
pub record Check : Type 0 where
  pub number : ℕ
  pub test : Table → Said → Bool

abbrev pub check : ℕ → (Table → Said → Bool) → Check
check n f = record { number = n; test = f }

-- a test of A and U alone
abbrev pub of_maker : (Table → Record → Bool) → Table → Said → Bool
of_maker test t end_of_day = false
of_maker test t (line r) = is_maker r.event && test t r

abbrev pub Lookup : Type 0
Lookup = Record → List Order → Found

-- a test of E, C, X, R and U alone: of the order that a lookup finds for the line
abbrev pub of_order : Lookup → (Record → Found → Bool) → Table → Said → Bool
of_order theirs test t end_of_day = false
of_order theirs test t (line r) = not (is_new r.event) && test r (theirs r t.orders)

-- a test of a line that belongs to a quote row alone
abbrev pub of_row : Lookup → (Record → ℕ → Seen → Bool) → Table → Said → Bool
of_row theirs test t end_of_day = false
of_row theirs test t (line r) = to_quote r (theirs r t.orders) && test r (length t.quotes) (find_row (quote_of r) t.quotes)

-- all of them, in the paper's order, by how a line's own key and the order that it speaks of are looked up
abbrev pub checks_by : (own theirs : Lookup) → ℕ → List Check
checks_by own theirs limit =
    check 6 (λ t x. t.over)
    ∷ check 7 (of_maker (λ t r. is_found (own r t.orders)))
    ∷ check 8 (λ t x. of_order theirs missing t x && not (of_row theirs row_there t x))
    ∷ check 9 (of_order theirs differs)
    ∷ check 10 (of_order theirs not_open)
    ∷ check 11 (λ t x. of_order theirs not_executed t x || of_row theirs row_not_executed t x)
    ∷ check 12 (of_maker (λ t r. leb limit (length t.orders)))
    ∷ check 13 (of_row theirs row_full)
    ∷ []

abbrev pub own_key : Lookup
own_key r = find (key_of r)

abbrev pub subject_key : Lookup
subject_key r = find (subject r)

abbrev pub checks : ℕ → List Check
checks = checks_by own_key subject_key

-- the number of the first whose test refuses, or 0
abbrev pub first_of : List Check → Table → Said → ℕ
first_of [] t x = 0
first_of (c ∷ cs) t x = cond (c.test t x) c.number (first_of cs t x)

abbrev pub refusal_of : ℕ → Table → Said → ℕ
refusal_of limit t x = first_of (checks limit) t x

-- ---- what an accepted line does

abbrev pub with_figures : (Figures → Figures) → Order → Order
with_figures f o =
    record { key = o.key; side = o.side; series = o.series; price = o.price; elder = o.elder; figures = f o.figures }

abbrev pub with_price : ℕ → Order → Order
with_price p o =
    record { key = o.key; side = o.side; series = o.series; price = p; elder = o.elder; figures = o.figures }

-- the order that a line makes, with the size that the line is granted
abbrev pub new_order : Record → (size elder : ℕ) → Order
new_order r size elder =
    record {
      key = key_of r;
      side = r.side;
      series = series_of r;
      price = r.price;
      elder = elder;
      figures = fresh_by size;
    }

-- 01, Orders and their figures
abbrev pub book_event : Event → Record → List Order → List Order
book_event Accepted r os = os ++ (new_order r r.contracts 0 ∷ [])
book_event (Executed t) r os = amend (key_of r) (with_figures (λ f. executed_by f r.contracts)) os
book_event Cancelled r os = amend (key_of r) (with_figures (λ f. cancelled_by f r.contracts)) os
book_event (Broken t) r os = amend (key_of r) (with_figures (λ f. broken_by f r.contracts)) os
book_event Replaced r os = amend (elder_key_of r) (with_figures passed_on) os ++ (new_order r r.contracts (place (elder_key_of r) os) ∷ [])
book_event Repriced r os = amend (key_of r) (with_price r.price) os

-- 02, 1: the row of a line that belongs to one; "the first E makes it"
abbrev pub execute_row : Quote → ℕ → List QuoteRow → List QuoteRow
execute_row q n ws = cond (is_seen (find_row q ws)) (amend_row q (λ w. row_executed_by w n) ws) (ws ++ (new_row q n ∷ []))

abbrev pub book_fill : Event → Record → List QuoteRow → List QuoteRow
book_fill e r ws = cond (is_execution e) (execute_row (quote_of r) r.contracts ws) (amend_row (quote_of r) (λ w. row_broken_by w r.contracts) ws)

-- by the order that a lookup found for the line
abbrev pub book_quotes : Found → Record → List QuoteRow → List QuoteRow
book_quotes o r ws = cond (to_quote r o) (book_fill r.event r ws) ws

abbrev pub accept : Said → Table → Table
accept end_of_day t = with_over t
accept (line r) t = with_quotes (book_quotes (subject_key r t.orders) r t.quotes) (with_orders (book_event r.event r t.orders) t)

-- ---- booking a piece

abbrev pub book_said : ℕ → Table → Said → Booked
book_said limit t x =
    cond (eqb (refusal_of limit t x) 0) (record { table = accept x t; answer = value tt })
    (record { table = t; answer = refused (refusal_of limit t x) 0 })

abbrev pub book_read : ℕ → Table → Answer Said → Booked
book_read limit t (value x) = book_said limit t x
book_read limit t (refused n f) = record { table = t; answer = refused n f }

-- 01, Order of checks: booking a piece: 1, 2, 3, then 6 to 12; 02, 1: then 13
abbrev pub book : ℕ → Table → List ℕ → Booked
book limit t p = book_read limit t (read p)
