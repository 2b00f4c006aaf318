-- Wrong bookings and wrong sheets, as 01 tells them, and of quote rows (02, 1). proofs/Refuted.antt and proofs/RefutedQuotes.antt show that each breaks demand 3.
use Rattle.std.specs.Prelude.{ℕ, ◌+◌, ◌≤◌, ◌≡◌, Bool, false, cond, not, ◌&&◌, List, [], ◌∷◌, ◌++◌, eqb, length}
use Rattle.run.specs.Runs.{same}
use Rattle.refusal.specs.Answer.{Answer, value, refused}
use Rattle.layout.specs.Line.{Said, end_of_day, line, read, line_of}
use Rattle.layout.specs.declared.Event.{Event}
use Rattle.layout.specs.declared.Record.{Record}
use Rattle.order.specs.Names.{key_of, series_of, same_key}
use Rattle.order.specs.declared.Figures.{Figures}
use Rattle.order.specs.declared.Key.{Key}
use Rattle.order.specs.declared.Order.{Order}
use Rattle.quote.specs.Quotes.{most_rows, quote_of}
use Rattle.quote.specs.declared.QuoteRow.{QuoteRow}
use Rattle.day.specs.History.{is_break}
use Rattle.day.specs.Listing.{Row, Sheet, Each}
use Rattle.day.specs.Machine.{Found, nobody, found, is_seen, find, find_row, amend, Lookup, checks_by, first_of, with_figures, book_event, book_quotes}
use Rattle.day.specs.Tables.{Table, empty, with_orders, with_quotes, with_over, Booked}

-- ---- 01, Promises of reader, table and sheet

module _ (book : Table → List ℕ → Booked) where
  -- "A booking that refuses everything": by whatever numbers
  abbrev pub RefusesAll : Type 0
  RefusesAll = (t : Table) (p : List ℕ) → (n : ℕ) × (f : ℕ) × ((book t p).answer ≡ refused n f)

  -- "One that accepts and changes nothing": whatever it answers
  abbrev pub ChangesNothing : Type 0
  ChangesNothing = (t : Table) (p : List ℕ) → (book t p).table.orders ≡ t.orders

  -- "or books the first line and merely nods at the rest"
  abbrev pub NodsAtRest : Type 0
  NodsAtRest = (t : Table) (p : List ℕ) → 1 ≤ length t.orders → (book t p).table.orders ≡ t.orders

module _ (sheet : Table → Sheet) where
  -- "A sheet whose N and F are invented": the one or the other is the same for any two tables
  abbrev pub InventsOrders : Type 0
  InventsOrders = (t u : Table) → (sheet t).orders ≡ (sheet u).orders

  abbrev pub InventsFamilies : Type 0
  InventsFamilies = (t u : Table) → (sheet t).families ≡ (sheet u).families

  -- "One empty sheet for all": whatever its heading
  abbrev pub ShowsNothing : Type 0
  ShowsNothing = (t : Table) → (sheet t).rows ≡ []

  -- ours: a sheet whose open is always 0
  abbrev pub ShowsNoOpen : Type 0
  ShowsNoOpen = (t : Table) → Each (λ q. q.figures.«open» ≡ 0) (sheet t).rows

-- ours: one with two orders' figures exchanged, those of the first two rows
abbrev pub with_figures_of : Row → Row → Row
with_figures_of p q = record { member = q.member; figures = p.figures; key = q.key }

abbrev pub exchanged : List Row → List Row
exchanged [] = []
exchanged (p ∷ []) = p ∷ []
exchanged (p ∷ q ∷ rows) = with_figures_of q p ∷ with_figures_of p q ∷ rows

abbrev pub exchanging : (Table → Sheet) → Table → Sheet
exchanging sheet t =
    record { orders = (sheet t).orders; families = (sheet t).families; rows = exchanged (sheet t).rows; quotes = (sheet t).quotes }

-- ---- 01, Errors a quick hand would make: our machine, with its two lookups and what an accepted line does left open

abbrev pub Effect : Type 0
Effect = Event → Record → List Order → List Order

module _ (own theirs : Lookup) (effect : Effect) (limit : ℕ) where
  abbrev pub refusal_with : Table → Said → ℕ
  refusal_with t x = first_of (checks_by own theirs limit) t x

  abbrev pub accept_with : Said → Table → Table
  accept_with end_of_day t = with_over t
  accept_with (line r) t = with_quotes (book_quotes (theirs r t.orders) r t.quotes) (with_orders (effect r.event r t.orders) t)

  abbrev pub book_read_with : Table → Answer Said → Booked
  book_read_with t (value x) =
      cond (eqb (refusal_with t x) 0) (record { table = accept_with x t; answer = value tt })
      (record { table = t; answer = refused (refusal_with t x) 0 })
  book_read_with t (refused n f) = record { table = t; answer = refused n f }

  abbrev pub book_with : Table → List ℕ → Booked
  book_with t p = book_read_with t (read p)

-- "Returning broken contracts to open.", whatever else becomes of the figures
abbrev pub Returns : (Figures → ℕ → Figures) → Type 0
Returns broken = (f : Figures) (n : ℕ) → (broken f n).«open» ≡ f.«open» + n

abbrev pub breaking_by : (Figures → ℕ → Figures) → Effect
breaking_by broken e r os = cond (is_break e) (amend (key_of r) (with_figures (λ f. broken f r.contracts)) os) (book_event e r os)

-- the earliest order of which a test holds
abbrev pub find_where : (Order → Bool) → List Order → Found
find_where test [] = nobody
find_where test (o ∷ os) = cond (test o) (found o) (find_where test os)

-- "Looking up .. any key by token without Source."
abbrev pub by_token : Key → List Order → Found
by_token k = find_where (λ o. same o.key.token k.token)

-- "Freeing an order's key once nothing is open."
abbrev pub own_open : Lookup
own_open r = find_where (λ o. same_key o.key (key_of r) && not (eqb o.figures.«open» 0))

-- ---- 02, 1: errors that a quick hand would make with quote rows

-- no order, and this row alone
abbrev pub one_row : QuoteRow → Table
one_row w = with_quotes (w ∷ []) empty

module _ (book : Table → List ℕ → Booked) where
  -- "naming no order, then or later": a later order with the key begins with what the row executed
  abbrev pub InheritsFills : Type 0
  InheritsFills =
      (w : QuoteRow) (r : Record) (o : Order) → key_of r ≡ w.quote.key
      → find (key_of r) (book (one_row w) (line_of r)).table.orders ≡ found o
      → o.figures.executed ≡ w.executed

  -- "one for each Source, id, side and series": one for both sides
  abbrev pub MixesSides : Type 0
  MixesSides =
      (w : QuoteRow) (r : Record) → key_of r ≡ w.quote.key → series_of r ≡ w.quote.series
      → length (book (one_row w) (line_of r)).table.quotes ≡ 1

  -- "11 as for orders": a C held against executed alone, whatever is broken already
  abbrev pub ForgetsBroken : Type 0
  ForgetsBroken =
      (w : QuoteRow) (r : Record) → quote_of r ≡ w.quote → r.contracts ≤ w.executed → (book (one_row w) (line_of r)).answer ≡ refused 11 0
      → ⊥

  -- "13, no quote row left": never said of a line whose row is not there
  abbrev pub DropsInSilence : Type 0
  DropsInSilence =
      (t : Table) (r : Record) → most_rows ≤ length t.quotes → is_seen (find_row (quote_of r) t.quotes) ≡ false
      → (book t (line_of r)).answer ≡ refused 13 0
      → ⊥

-- "each quote row also appears once": twice
abbrev pub ShowsRowsTwice : (Table → Sheet) → Type 0
ShowsRowsTwice sheet = (t : Table) → (sheet t).quotes ≡ t.quotes ++ t.quotes
