-- docs/LAYOUT.md, The lent table: a quote row in its 49 bytes, which begin as a slot does, and the rows one after another.
use Rattle.std.specs.Prelude.{ℕ, ◌^◌, ◌<◌, List, [], ◌∷◌, ◌++◌, get_or}
use Rattle.run.specs.Runs.{part}
use Rattle.quote.specs.declared.Quote.{Quote}
use Rattle.quote.specs.declared.QuoteRow.{QuoteRow}
use Rattle.cell.specs.Cells.{le, le_bytes}
use Rattle.section.specs.Sections.{start_of, records_in, Inside}
use Rattle.section.specs.declared.Section.{Section}
use Rattle.slot.specs.Slots.{key_in, series_in, key_bytes, series_bytes, RunOf}

-- docs/LAYOUT.md: the bytes of a row
abbrev pub row_width : ℕ
row_width = 49

-- docs/LAYOUT.md: those of its quote, at its beginning
abbrev pub quote_width : ℕ
quote_width = 41

-- docs/LAYOUT.md: rows one right behind the other, the first of them at base
abbrev pub rows : ℕ → Section
rows base = record { first = base; step = row_width; width = row_width }

-- 02, 1: "one for each Source, id, side and series": what stands at the beginning of each row
abbrev pub row_quotes : ℕ → Section
row_quotes base = record { first = base; step = row_width; width = quote_width }

-- docs/LAYOUT.md: where row i begins
abbrev pub row_at : ℕ → ℕ → ℕ
row_at base i = start_of (rows base) i

-- docs/LAYOUT.md: the quote that the first 41 bytes of a row say
abbrev pub quote_in : List ℕ → Quote
quote_in b = record { key = key_in b; side = get_or b 26 0; series = series_in b }

-- docs/LAYOUT.md: the row that its 49 bytes say
abbrev pub row_in : List ℕ → QuoteRow
row_in b = record { quote = quote_in b; executed = le (part b 41 4); broken = le (part b 45 4) }

-- docs/LAYOUT.md: the 41 bytes of a quote
abbrev pub quote_bytes : Quote → List ℕ
quote_bytes q = key_bytes q.key ++ (q.side ∷ []) ++ series_bytes q.series

-- docs/LAYOUT.md: the 49 bytes of a row
abbrev pub row_bytes : QuoteRow → List ℕ
row_bytes w = quote_bytes w.quote ++ le_bytes 4 w.executed ++ le_bytes 4 w.broken

-- 02, 1: the first n rows, in order of their first E
abbrev pub rows_in : ℕ → ℕ → List ℕ → List QuoteRow
rows_in base n s = records_in row_in (rows base) s 0 n

-- docs/LAYOUT.md: row i lies within the bytes
abbrev pub RowInside : ℕ → ℕ → List ℕ → Type 0
RowInside base i s = Inside (rows base) s i

-- docs/LAYOUT.md: a quote that has room in 41 bytes
pub record FitsQuote (q : Quote) : Type 0 where
  pub source : RunOf 6 q.key.source
  pub token : RunOf 20 q.key.token
  pub side : q.side < 256
  pub root : RunOf 6 q.series.root
  pub month : q.series.month < 256
  pub date : q.series.date < 256
  pub year : q.series.year < 256
  pub denominator : q.series.denominator < 256
  pub strike : q.series.strike < 2 ^ 32

-- docs/LAYOUT.md: a row that has room in 49 bytes
pub record FitsRow (w : QuoteRow) : Type 0 where
  pub quote : FitsQuote w.quote
  pub executed : w.executed < 2 ^ 32
  pub broken : w.broken < 2 ^ 32
