-- 01, Refusals by number, 1 to 3 and 6 to 12, and 02, 1: each as a proposition about the accepted lines and the piece at hand.
use Rattle.std.specs.Prelude.{ℕ, ◌+◌, ◌-◌, ◌≤◌, ◌<◌, ◌≡◌, Bool, true, false, cond, ◌&&◌, ◌||◌, List, [], ◌∷◌, ◌⊎◌, length}
use Rattle.refusal.specs.Answer.{value, refused}
use Rattle.layout.specs.Line.{Said, end_of_day, line, read}
use Rattle.layout.specs.declared.Record.{Record}
use Rattle.order.specs.Names.{key_of, elder_key_of, series_of}
use Rattle.order.specs.declared.Key.{Key}
use Rattle.quote.specs.Quotes.{most_rows, most_executed, quote_of}
use Rattle.day.specs.History.{History, is_new, is_execution, is_cancel, is_break, is_replace, is_reprice, is_maker, known, line_that_made, lines_that_make, is_over, executed_of, broken_of, open_of}
use Rattle.day.specs.Quotes.{belongs, filled_of, has_row, quotes_of}

-- the order that a line speaks of: for U, the elder
abbrev pub subject : Record → Key
subject r = cond (is_replace r.event) (elder_key_of r) (key_of r)

-- that order is there, and P holds of it
abbrev pub OfOrder : History → Record → Type 0 → Type 0
OfOrder h r P = (is_new r.event ≡ false) × (known (subject r) h ≡ true) × P

-- 02, 1: an E that belongs to a quote row, which it makes if it must, or a C that finds its row
abbrev pub finds : History → Record → Bool
finds h r = belongs h r && (is_execution r.event || has_row (quote_of r) h)

-- the line belongs to a quote row that is there, and P holds of it
abbrev pub OfRow : History → Record → Type 0 → Type 0
OfRow h r P = (belongs h r ≡ true) × (has_row (quote_of r) h ≡ true) × P

-- to one that is not there yet
abbrev pub OfNewRow : History → Record → Type 0 → Type 0
OfNewRow h r P = (belongs h r ≡ true) × (has_row (quote_of r) h ≡ false) × P

-- one side and one series
abbrev pub Alike : Record → Record → Type 0
Alike m r = (m.side ≡ r.side) × (series_of m ≡ series_of r)

-- "end of day was booked before"
abbrev pub DayOver : History → Said → Type 0
DayOver h x = is_over h ≡ true

-- "A or U: the key is in the table"
abbrev pub KnownKey : History → Said → Type 0
KnownKey h end_of_day = ⊥
KnownKey h (line r) = (is_maker r.event ≡ true) × (known (key_of r) h ≡ true)

-- "E C X R: the key isn't in the table; U: the elder's key isn't"; "8 no longer for such an E, nor for a C that finds its row"
abbrev pub UnknownKey : History → Said → Type 0
UnknownKey h end_of_day = ⊥
UnknownKey h (line r) = (is_new r.event ≡ false) × (known (subject r) h ≡ false) × (finds h r ≡ false)

-- "E C X R U: side or series differs from that order's (for U, the elder's)"
abbrev pub OtherSeries : History → Said → Type 0
OtherSeries h end_of_day = ⊥
OtherSeries h (line r) = OfOrder h r (Alike (line_that_made (subject r) h r) r → ⊥)

-- "E X: n is more than open; U R: open is 0"
abbrev pub NotOpen : History → Said → Type 0
NotOpen h end_of_day = ⊥
NotOpen h (line r) =
    OfOrder h r
    ((((is_execution r.event || is_cancel r.event) ≡ true) × (open_of (subject r) h < r.contracts))
    ⊎ (((is_replace r.event || is_reprice r.event) ≡ true) × (open_of (subject r) h ≡ 0)))

-- "C: n is more than executed less broken"; of a quote row "11 as for orders"
abbrev pub NotExecuted : History → Said → Type 0
NotExecuted h end_of_day = ⊥
NotExecuted h (line r) =
    let q = quote_of r in
    OfOrder h r ((is_break r.event ≡ true) × (executed_of (subject r) h - broken_of (subject r) h < r.contracts))
    ⊎ OfRow h r ((is_break r.event ≡ true) × (filled_of is_execution q h - filled_of is_break q h < r.contracts))

-- "A or U: the table holds 512", or whatever its limit is
abbrev pub Full : ℕ → History → Said → Type 0
Full limit h end_of_day = ⊥
Full limit h (line r) = (is_maker r.event ≡ true) × (limit ≤ length (lines_that_make h))

-- 02, 1: "no quote row left or a row's executed above 4,294,967,295"
abbrev pub RowFull : History → Said → Type 0
RowFull h end_of_day = ⊥
RowFull h (line r) =
    OfNewRow h r ((is_execution r.event ≡ true) × (most_rows ≤ length (quotes_of h)))
    ⊎ OfRow h r ((is_execution r.event ≡ true) × (most_executed < filled_of is_execution (quote_of r) h + r.contracts))

pub record Rule : Type 1 where
  pub number : ℕ
  pub applies : Type 0

abbrev pub rule : ℕ → Type 0 → Rule
rule n P = record { number = n; applies = P }

-- the piece reads as what P speaks of
abbrev pub Reads : List ℕ → (Said → Type 0) → Type 0
Reads p P = (x : Said) × (read p ≡ value x) × P x

-- all of them for a piece, in the paper's order of checks, after the accepted lines
abbrev pub rules : ℕ → History → List ℕ → List Rule
rules limit h p =
    rule 1 (read p ≡ refused 1 0)
    ∷ rule 2 (read p ≡ refused 2 0)
    ∷ rule 3 ((f : ℕ) × (read p ≡ refused 3 f))
    ∷ rule 6 (Reads p (DayOver h))
    ∷ rule 7 (Reads p (KnownKey h))
    ∷ rule 8 (Reads p (UnknownKey h))
    ∷ rule 9 (Reads p (OtherSeries h))
    ∷ rule 10 (Reads p (NotOpen h))
    ∷ rule 11 (Reads p (NotExecuted h))
    ∷ rule 12 (Reads p (Full limit h))
    ∷ rule 13 (Reads p (RowFull h))
    ∷ []

-- none applies
abbrev pub NoneOf : List Rule → Type 0
NoneOf [] = Unit {0}
NoneOf (r ∷ rs) = (r.applies → ⊥) × NoneOf rs

-- n is the number of the first that applies
abbrev pub FirstOf : List Rule → ℕ → Type 0
FirstOf [] n = ⊥
FirstOf (r ∷ rs) n = (r.applies × (n ≡ r.number)) ⊎ ((r.applies → ⊥) × FirstOf rs n)
