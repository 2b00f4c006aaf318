-- What each entry of the door promises: the one number that it answers, and each lent number and byte.
use Rattle.std.specs.Prelude.{ℕ, ◌≡◌, cond, unwrap_or, List, ltb, eqb, length}
use Rattle.std.proofs.lemmas.List.Edits.{sets}
use Rattle.refusal.specs.Answer.{Answer, value, refused, code_of}
use Rattle.layout.specs.Clocks.{clock}
use Rattle.layout.specs.Line.{Said, line, end_of_day, out_after}
use Rattle.layout.specs.Line.{read as read_line}
use Rattle.layout.specs.Strikes.{strike_value, strike_form}
use Rattle.layout.specs.declared.Clock.{Clock}
use Rattle.layout.specs.declared.Strike.{Strike}
use Rattle.table.specs.Entries.{look_up_answer, copy_answer, copied_from}
use Rattle.section.specs.declared.Section.{Section}
use Rattle.slot.specs.Places.{slots}
use Rattle.quote_slot.specs.QuoteSlots.{rows}
use Rattle.table.specs.Tables.{count_in, row_count_in, base_in, make_answer, made_from, sound}
use Rattle.book.specs.Bytes.{book_answer, book_bytes}
use Rattle.book_all.specs.Promises.{book_all_answer, table_from, answers_from}
use Rattle.book_all.specs.declared.Used.{Used}
use Rattle.sheet.specs.Promises.{sheet_answer, sheet_from}
use Rattle.piece.specs.Pieces.{next_piece}
use Rattle.image.specs.Images.{image_of, record_in, unwritable}

-- a lent number afterwards: a refusal leaves it alone
abbrev pub number_after : {A : Type 0} → (A → ℕ) → Answer A → ℕ → ℕ
number_after of (value x) before = of x
number_after of (refused n f) before = before

-- ---- `skurzelt_read`: 4, then 1, 2, 3

abbrev pub read_answer : List ℕ → List ℕ → Answer Said
read_answer piece before = cond (ltb (length before) 138) (refused 4 0) (read_line piece)

-- 1 is a record, 0 the end of the day
abbrev pub kind_of : Said → ℕ
kind_of end_of_day = 0
kind_of (line r) = 1

abbrev pub record_after : Answer Said → List ℕ → List ℕ
record_after (value end_of_day) before = before
record_after (value (line r)) before = sets before 0 (image_of r)
record_after (refused n f) before = before

pub record Reads (piece before : List ℕ) (kind r : ℕ) (after : List ℕ) (kind' : ℕ) : Type 0 where
  pub said : r ≡ code_of (read_answer piece before)
  pub told : kind' ≡ number_after kind_of (read_answer piece before) kind
  pub out : after ≡ record_after (read_answer piece before) before

-- ---- `skurzelt_write`: 4, then 3 for the first field with a byte without meaning or a broken rule

abbrev pub write_answer : List ℕ → List ℕ → Answer (Unit {0})
write_answer b before =
    cond (ltb (length before) 140) (refused 4 0) (cond (eqb (unwritable b) 0) (value tt) (refused 3 (unwritable b)))

pub record Writes (b before : List ℕ) (r : ℕ) (after : List ℕ) : Type 0 where
  pub said : r ≡ code_of (write_answer b before)
  pub out : after ≡ out_after (write_answer b before) (record_in b) before

-- ---- strikes and clock

-- `skurzelt_strike_value`
pub record StrikeValues (d n v r v' : ℕ) : Type 0 where
  pub said : r ≡ code_of (strike_value d n)
  pub told : v' ≡ number_after (λ x. x) (strike_value d n) v

-- `skurzelt_strike_form`
pub record StrikeForms (v d n r d' n' : ℕ) : Type 0 where
  pub said : r ≡ code_of (strike_form v)
  pub denominator : d' ≡ number_after (λ (x : Strike). x.denominator) (strike_form v) d
  pub digits : n' ≡ number_after (λ (x : Strike). x.digits) (strike_form v) n

-- `skurzelt_clock`
pub record Clocks (ms h m s t r h' m' s' t' : ℕ) : Type 0 where
  pub said : r ≡ code_of (clock ms)
  pub hours : h' ≡ number_after (λ (x : Clock). x.hours) (clock ms) h
  pub minutes : m' ≡ number_after (λ (x : Clock). x.minutes) (clock ms) m
  pub seconds : s' ≡ number_after (λ (x : Clock). x.seconds) (clock ms) s
  pub milliseconds : t' ≡ number_after (λ (x : Clock). x.milliseconds) (clock ms) t

-- ---- tables

-- `skurzelt_empty_table`
pub record Empties (before : List ℕ) (r : ℕ) (after : List ℕ) : Type 0 where
  pub said : r ≡ code_of (make_answer before)
  pub out : after ≡ made_from (make_answer before) before

-- `skurzelt_check_table`
pub record Checks (table : List ℕ) (r : ℕ) : Type 0 where
  pub said : r ≡ cond (sound table) 0 5

-- `skurzelt_find_order`
pub record Finds (table key : List ℕ) (p r p' : ℕ) : Type 0 where
  pub said : r ≡ code_of (look_up_answer table key)
  pub told : p' ≡ number_after (λ x. x) (look_up_answer table key) p

-- record i of the n that a section of a table has
pub record RecordsAt (c : Section) (n : ℕ) (table : List ℕ) (i : ℕ) (before : List ℕ) (r : ℕ) (after : List ℕ) : Type 0 where
  pub said : r ≡ code_of (copy_answer c n table i before)
  pub out : after ≡ copied_from (copy_answer c n table i before) c table i before

-- `skurzelt_order_at`
abbrev pub OrdersAt : (table : List ℕ) (i : ℕ) (before : List ℕ) (r : ℕ) (after : List ℕ) → Type 0
OrdersAt table = RecordsAt slots (count_in table) table

-- `skurzelt_quote_at`
abbrev pub QuotesAt : (table : List ℕ) (i : ℕ) (before : List ℕ) (r : ℕ) (after : List ℕ) → Type 0
QuotesAt table = RecordsAt (rows (base_in table)) (row_count_in table) table

-- `skurzelt_book`
pub record BooksIn (before piece : List ℕ) (r : ℕ) (after : List ℕ) : Type 0 where
  pub said : r ≡ code_of (book_answer before piece)
  pub out : after ≡ book_bytes before piece

-- `skurzelt_book_all`
pub record BooksAllIn (table text answers : List ℕ) (used booked r : ℕ) (after given : List ℕ) (used' booked' : ℕ) : Type 0 where
  pub said : r ≡ code_of (book_all_answer table text answers)
  pub out : after ≡ table_from (book_all_answer table text answers) table text answers
  pub told : given ≡ answers_from (book_all_answer table text answers) table text answers
  pub bytes : used' ≡ number_after (λ (u : Used). u.bytes) (book_all_answer table text answers) used
  pub pieces : booked' ≡ number_after (λ (u : Used). u.pieces) (book_all_answer table text answers) booked

-- `skurzelt_sheet`
pub record SheetsIn (table before : List ℕ) (n r : ℕ) (after : List ℕ) (n' : ℕ) : Type 0 where
  pub said : r ≡ code_of (sheet_answer table before)
  pub told : n' ≡ number_after (λ x. x) (sheet_answer table before) n
  pub out : after ≡ sheet_from (sheet_answer table before) table before

-- ---- texts

-- `skurzelt_next_piece`: the place behind the next piece; where nothing is left, the place that was asked for
pub record NextPieces (text : List ℕ) (at r e' : ℕ) : Type 0 where
  pub said : r ≡ 0
  pub told : e' ≡ unwrap_or (next_piece text at) at
