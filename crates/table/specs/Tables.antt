-- docs/LAYOUT.md, The lent table: the table that bytes say, and when they have a meaning.
use Rattle.std.specs.Prelude.{ℕ, zero, suc, ◌+◌, Bool, true, cond, ◌&&◌, List, [], ◌∷◌, ltb, leb, eqb, length, get_or, replicate}
use Rattle.std.proofs.lemmas.List.Edits.{sets}
use Rattle.run.specs.Runs.{part, all, is_zero}
use Rattle.cell.specs.Cells.{le}
use Rattle.refusal.specs.Answer.{Answer, value, refused}
use Rattle.quote.specs.Quotes.{most_rows}
use Rattle.day.specs.Damage.{orders_undamaged, quotes_undamaged}
use Rattle.day.specs.Tables.{Table, empty, with_orders, with_quotes, with_mark}
use Rattle.slot.specs.Places.{slot_at, orders_in}
use Rattle.quote_slot.specs.QuoteSlots.{row_at, rows_in}

-- the bytes of a table with room for so many orders: the quote rows stand behind the slots (02, 1)
abbrev pub table_length : ℕ → ℕ
table_length limit = row_at (slot_at limit) most_rows

-- 01, Orders and their figures: "A table holds at most 512 orders"
abbrev pub least_limit : ℕ
least_limit = 512

-- the limits that tables have, the least first
abbrev pub limits : List ℕ
limits = least_limit ∷ []

abbrev pub limit_among : List ℕ → ℕ → ℕ
limit_among [] n = 0
limit_among (limit ∷ others) n = cond (eqb n (table_length limit)) limit (limit_among others n)

-- how many orders a table of so many bytes has room for; 0 where the length has no meaning
unfoldable pub limit_of : ℕ → ℕ
limit_of n = limit_among limits n

abbrev pub count_in : List ℕ → ℕ
count_in s = le (part s 0 4)

-- how many quote rows there are (02, 1)
abbrev pub row_count_in : List ℕ → ℕ
row_count_in s = get_or s 5 0

-- where they begin
abbrev pub base_in : List ℕ → ℕ
base_in s = slot_at (limit_of (length s))

-- two bytes of the header, kept for the count of trades (02, 7); they have no meaning yet
abbrev pub spare_in : List ℕ → List ℕ
spare_in s = part s 6 2

-- the table that the bytes say
abbrev pub table_in : List ℕ → Table
table_in s =
    with_mark (eqb (get_or s 4 0) 1) (with_quotes (rows_in (base_in s) (row_count_in s) s) (with_orders (orders_in 0 (count_in s) s) empty))

-- the last five bytes of a slot are 0
abbrev pub tail_zero : List ℕ → ℕ → Bool
tail_zero s i = all is_zero (part s (slot_at i + 75) 5)

-- those of each of n slots, the first of them slot i
abbrev pub tails_zero : ℕ → ℕ → List ℕ → Bool
tails_zero i zero s = true
tails_zero i (suc n) s = tail_zero s i && tails_zero (i + 1) n s

-- the header but for the count: the mark of the day's end is 0 or 1, and the bytes that are kept are 0
abbrev pub header_sound : List ℕ → Bool
header_sound s = leb (get_or s 4 0) 1 && all is_zero (spare_in s)

-- all slots in use
abbrev pub slots_sound : List ℕ → Bool
slots_sound s = tails_zero 0 (count_in s) s && orders_undamaged (limit_of (length s)) (table_in s).orders

-- all quote rows in use
abbrev pub rows_sound : List ℕ → Bool
rows_sound s = quotes_undamaged (table_in s).quotes

-- 01, Damaged: a length or a stored byte that the layout gives no meaning, or orders that are damaged; 02, 1: or quote rows
unfoldable pub sound : List ℕ → Bool
sound s = ltb 0 (limit_of (length s)) && leb (count_in s) (limit_of (length s)) && header_sound s && slots_sound s && rows_sound s

-- 01, Refusals by number, 4 and 5: making the empty table in a lent buffer
abbrev pub make_answer : List ℕ → Answer (Unit {0})
make_answer before =
    cond (ltb (length before) (table_length least_limit)) (refused 4 0) (cond (ltb 0 (limit_of (length before))) (value tt) (refused 5 0))

-- only the header is written: free slots keep whatever they hold
abbrev pub made_from : Answer (Unit {0}) → List ℕ → List ℕ
made_from (value u) before = sets before 0 (replicate 8 0)
made_from (refused n f) before = before
