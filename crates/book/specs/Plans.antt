-- What a plan for a line is, and what carrying it out does to the bytes of a table.
use Rattle.std.specs.Prelude.{ℕ, ◌+◌, ◌<◌, ◌≡◌, Bool, true, false, cond, ◌&&◌, List, [], leb, length, Result, Ok, Err, IfOk}
use Rattle.refusal.specs.Answer.{answer_of, answer_by}
use Rattle.refusal.specs.declared.Refusal.{Refusal}
use Rattle.refusal.specs.declared.Refusal.TheVariants.{UnknownKey, OtherSeries, NotOpen, NotExecuted, Full, RowFull}
use Rattle.layout.specs.Line.{Said, line}
use Rattle.layout.specs.declared.Event.{Event}
use Rattle.layout.specs.declared.Event.TheVariants.{Accepted, Executed, Cancelled, Broken, Replaced, Repriced}
use Rattle.layout.specs.declared.Record.{Record}
use Rattle.order.specs.Figure.{executed_by, broken_by, cancelled_by, passed_on}
use Rattle.order.specs.Names.{key_of}
use Rattle.order.specs.declared.Figures.{Figures}
use Rattle.order.specs.declared.Order.{Order}
use Rattle.quote.specs.Quotes.{most_rows, quote_of, new_row}
use Rattle.quote.specs.declared.QuoteRow.{QuoteRow}
use Rattle.day.specs.History.{is_new, is_execution, is_maker}
use Rattle.day.specs.Machine.{book_said, found, find, is_found, differs, not_open, not_executed, Seen, none, seen, row_not_executed, row_full, with_figures, with_price, new_order}
use Rattle.slot.specs.Places.{SlotInside}
use Rattle.slot.specs.declared.Asked.{Asked}
use Rattle.quote_slot.specs.QuoteSlots.{RowInside}
use Rattle.table.specs.Changes.{changed_at, appended, row_changed_at, row_appended}
use Rattle.table.specs.Tables.{count_in, row_count_in, base_in, limit_of, table_in}
use Rattle.book.specs.Bytes.{said_bytes}
use Rattle.book.specs.declared.Plan.{Plan}
use Rattle.book.specs.declared.Plan.TheVariants.{New, Change, Price, Replace, NewRow, Sums}

-- the plan for a line of an event that no condition refused, f being the figures of the order at place i that it speaks of
abbrev pub plan_by : Event → ℕ → Figures → Record → Plan
plan_by Accepted i f r = New
plan_by (Executed t) i f r = Change i (executed_by f r.contracts)
plan_by Cancelled i f r = Change i (cancelled_by f r.contracts)
plan_by (Broken t) i f r = Change i (broken_by f r.contracts)
plan_by Replaced i f r = Replace i (passed_on f)
plan_by Repriced i f r = Price i r.price

-- an order that has what is asked and is blank in all else: the conditions of a line look at nothing else
abbrev pub order_with : Asked → Order
order_with a =
    record { key = record { source = []; token = [] }; side = a.side; series = a.series; price = 0; elder = 0; figures = a.figures }

-- the plan for a line about the order o at place i, by 9 to 12 in the order of 01; full says whether the table is
abbrev pub plan_about : ℕ → Order → Record → Bool → Result Plan Refusal
plan_about i o r full =
    cond (differs r (found o)) (Err OtherSeries)
    (cond (not_open r (found o)) (Err NotOpen)
    (cond (not_executed r (found o)) (Err NotExecuted)
    (cond (is_maker r.event && full) (Err Full) (Ok (plan_by r.event i o.figures r)))))

-- 02, 1: E and C of a row at place i
abbrev pub plan_fill : Bool → ℕ → QuoteRow → ℕ → Plan
plan_fill true i w n = Sums i (w.executed + n) w.broken
plan_fill false i w n = Sums i w.executed (w.broken + n)

-- the plan for an E or C that belongs to a quote row, by 8, 11 and 13: i is the place of the row that is seen, n how many there are
abbrev pub plan_row : ℕ → ℕ → Seen → Record → Result Plan Refusal
plan_row n i none r = cond (is_execution r.event) (cond (leb most_rows n) (Err RowFull) (Ok NewRow)) (Err UnknownKey)
plan_row n i (seen w) r =
    cond (row_not_executed r n (seen w)) (Err NotExecuted)
    (cond (row_full r n (seen w)) (Err RowFull) (Ok (plan_fill (is_execution r.event) i w r.contracts)))

-- other figures at a place
abbrev pub refigured : ℕ → Figures → List ℕ → List ℕ
refigured i f s = changed_at i (with_figures (λ (old : Figures). f)) s

-- other sums in the quote row at a place
abbrev pub resummed : ℕ → ℕ → ℕ → List ℕ → List ℕ
resummed i e b s = row_changed_at i (λ (old : QuoteRow). record { quote = old.quote; executed = e; broken = b }) s

-- the bytes once a plan is carried out
abbrev pub after_plan : Plan → Record → List ℕ → List ℕ
after_plan New r s = appended (new_order r r.contracts 0) s
after_plan (Change i f) r s = refigured i f s
after_plan (Price i p) r s = changed_at i (with_price p) s
after_plan (Replace i f) r s = appended (new_order r r.contracts (i + 1)) (refigured i f s)
after_plan NewRow r s = row_appended (new_row (quote_of r) r.contracts) s
after_plan (Sums i e b) r s = resummed i e b s

-- a refusal changes not one byte
abbrev pub after_planning : Result Plan Refusal → Record → List ℕ → List ℕ
after_planning (Ok p) r s = after_plan p r s
after_planning (Err x) r s = s

-- the slots and rows that a plan stores to are inside the table, and it has room for one order or row more where the plan makes one
abbrev pub RoomFor : Plan → List ℕ → Type 0
RoomFor New s = count_in s < limit_of (length s)
RoomFor (Change i f) s = SlotInside i s
RoomFor (Price i p) s = SlotInside i s
RoomFor (Replace i f) s = SlotInside i s × (count_in s < limit_of (length s))
RoomFor NewRow s = RowInside (base_in s) (row_count_in s) s × (row_count_in s < 255)
RoomFor (Sums i e b) s = RowInside (base_in s) i s

-- what refusals 6 and 7 leave of a line that is no A
pub record Older (s : List ℕ) (r : Record) : Type 0 where
  pub not_over : (table_in s).over ≡ false
  pub not_known : (is_maker r.event && is_found (find (key_of r) (table_in s).orders)) ≡ false
  pub not_new : is_new r.event ≡ false

-- a plan for a line
pub record Plans (s : List ℕ) (r : Record) (p : Result Plan Refusal) : Type 0 where
  pub said : answer_by (λ (q : Plan). tt {0}) p ≡ (book_said (limit_of (length s)) (table_in s) (line r)).answer
  pub out : after_planning p r s ≡ said_bytes (line r) s
  pub room : IfOk p (λ q. RoomFor q s)

-- booking what a piece says into an undamaged table
pub record BooksSaid (before : List ℕ) (x : Said) (b : Result (Unit {0}) Refusal) (after : List ℕ) : Type 0 where
  pub said : answer_of b ≡ (book_said (limit_of (length before)) (table_in before) x).answer
  pub out : after ≡ said_bytes x before
