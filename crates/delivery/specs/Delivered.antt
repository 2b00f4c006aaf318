-- The tender's demand 3 at the bytes: what a host gets who makes a table, books pieces and asks the sheet by the promises of the entries, and what the
-- sheet program prints. proofs/Delivered.antt proves it.
use Rattle.std.specs.Prelude.{ℕ, ◌+◌, ◌≤◌, ◌<◌, ◌≡◌, true, false, List, [], ◌∷◌, ◌++◌, Result, length, drop}
use Rattle.refusal.specs.Answer.{value, answer_of}
use Rattle.refusal.specs.declared.Refusal.{Refusal}
use Rattle.layout.specs.Line.{read}
use Rattle.quote.specs.declared.Quote.{Quote}
use Rattle.day.specs.Demand3.{IsAnswer, IsSheet, AddsUp, joined}
use Rattle.day.specs.History.{History, orders_of}
use Rattle.day.specs.Listing.{Sheet, members_of, Each, shown, shown_quote}
use Rattle.day.specs.Quotes.{has_row}
use Rattle.table.specs.Promises.{Makes}
use Rattle.table.specs.Tables.{limit_of}
use Rattle.book.specs.Promises.{Books}
use Rattle.sheet.specs.Promises.{Sheets}
use Rattle.sheet.specs.Texts.{text_of_sheet, longest_sheet}
use Rattle.piece.specs.Pieces.{pieces}
use Rattle.feed.specs.Printed.{report, printed}

-- a piece that was booked, and what was answered
pub record Call : Type 0 where
  pub piece : List ℕ
  pub answer : Result (Unit {0}) Refusal

-- "Start from an empty table and feed it lines, good or bad, in any sequence.": the empty table is made in a lent buffer, then pieces are booked into it,
-- the latest first; last comes the buffer as it is then
pub data Day (before : List ℕ) : List Call → List ℕ → Type 0 where
  begun : {x : Result (Unit {0}) Refusal} {table : List ℕ} → Makes before x table → Day before [] table
  booked : {calls : List Call} {table after : List ℕ} (c : Call) → Day before calls table → Books table c.piece c.answer after
      → Day before (c ∷ calls) after

-- the accepted lines
abbrev pub accepted_in : List Call → History
accepted_in [] = []
accepted_in (c ∷ calls) = joined (answer_of c.answer) (read c.piece) (accepted_in calls)

-- the pieces in the order in which they were booked
abbrev pub in_order : List Call → List (List ℕ)
in_order [] = []
in_order (c ∷ calls) = in_order calls ++ (c.piece ∷ [])

-- 01, The sheet: "numbers them from 1, .. prints for each refused piece as it comes"
abbrev pub refusal_lines : List Call → List ℕ
refusal_lines [] = []
refusal_lines (c ∷ calls) = refusal_lines calls ++ report (length calls + 1) (answer_of c.answer)

-- the sheet of the accepted lines h, as it is written from the bytes of a table of a limit
pub record Shows (limit : ℕ) (h : History) (table : List ℕ) : Type 0 where
  -- there is one, and no other: N and F counted, families in order, each row's key and figures as the accepted lines say
  pub sheet : Sheet
  pub so : IsSheet h sheet
  pub only_so : (s : Sheet) → IsSheet h s → s ≡ sheet
  -- "every accepted order once and no other"
  pub each_once : (i : ℕ) → i < length (orders_of h) → shown i (members_of sheet.rows) ≡ 1
  pub no_other : (i : ℕ) → length (orders_of h) ≤ i → shown i (members_of sheet.rows) ≡ 0
  -- 02, 1: "each quote row also appears once", and no other
  pub quote_once : (q : Quote) → has_row q h ≡ true → shown_quote q sheet.quotes ≡ 1
  pub no_other_quote : (q : Quote) → has_row q h ≡ false → shown_quote q sheet.quotes ≡ 0
  -- "and size equals executed plus cancelled plus passed on plus open"
  pub adds_up : Each AddsUp sheet.rows
  -- "Given room": its text, the quote section below the families, is written, and only the bytes it needs, from the front
  pub written : (out : List ℕ) (x : Result ℕ Refusal) (after : List ℕ) → Sheets table out x after → length (text_of_sheet sheet) ≤ length out
      → (answer_of x ≡ value (length (text_of_sheet sheet))) × (after ≡ text_of_sheet sheet ++ drop (length (text_of_sheet sheet)) out)
  -- and there is room in every buffer of this length
  pub room : length (text_of_sheet sheet) ≤ longest_sheet limit

-- whatever the buffer held before; the limit is that of its length
pub record Delivered (before : List ℕ) : Type 0 where
  -- "A line is accepted exactly when no refusal of the build paper applies to it after the lines accepted before it.": each answer of each such day
  pub answers : {calls : List Call} {table : List ℕ} → Day before calls table → (p : List ℕ) (x : Result (Unit {0}) Refusal) (after : List ℕ) → Books table p x after
      → IsAnswer (limit_of (length before)) (accepted_in calls) p (answer_of x)
  -- "the sheet shows every accepted order once and no other .. Every figure equals what the accepted lines naming that order say"
  pub shows : {calls : List Call} {table : List ℕ} → Day before calls table → Shows (limit_of (length before)) (accepted_in calls) table
  -- what the program prints for a text is the refusal lines of its pieces and then the text of that sheet
  pub prints : {calls : List Call} {table : List ℕ} (day : Day before calls table) (text : List ℕ) → in_order calls ≡ pieces text
      → printed (limit_of (length before)) text ≡ refusal_lines calls ++ text_of_sheet (shows day).sheet

pub record Delivery : Type 0 where
  -- 01, Orders and their figures: "A table holds at most 512 orders"; docs/LAYOUT.md: it has 47,240 bytes, and no other length has a meaning
  pub limit : limit_of 47240 ≡ 512
  pub no_other : (n : ℕ) → (n ≡ 47240 → ⊥) → limit_of n ≡ 0
  -- include/skurzelt.h: what a sheet of such a table takes at most
  pub longest : longest_sheet 512 ≡ 46616
  pub delivered : (before : List ℕ) → 0 < limit_of (length before) → Delivered before
