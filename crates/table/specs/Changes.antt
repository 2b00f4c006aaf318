-- docs/LAYOUT.md, The lent table: what a change of an order and one order more make of its bytes; 02, 1: and of a quote row.
use Rattle.std.specs.Prelude.{ℕ, ◌+◌, ◌-◌, List, [], ◌∷◌}
use Rattle.std.proofs.lemmas.List.Edits.{sets}
use Rattle.cell.specs.Cells.{le_bytes}
use Rattle.order.specs.declared.Key.{Key}
use Rattle.order.specs.declared.Order.{Order}
use Rattle.quote.specs.Rows.{row_place}
use Rattle.quote.specs.declared.Quote.{Quote}
use Rattle.quote.specs.declared.QuoteRow.{QuoteRow}
use Rattle.day.specs.Machine.{place}
use Rattle.section.specs.Sections.{record_of}
use Rattle.slot.specs.Slots.{order_in, slot_bytes}
use Rattle.slot.specs.Places.{slot_at, slot}
use Rattle.quote_slot.specs.QuoteSlots.{rows, row_at, row_in, row_bytes}
use Rattle.table.specs.Tables.{count_in, row_count_in, base_in, table_in}

-- the order at place i changed
abbrev pub changed_at : ℕ → (Order → Order) → List ℕ → List ℕ
changed_at i f s = sets s (slot_at i) (slot_bytes (f (order_in (slot s i))))

-- the earliest order with a key changed
abbrev pub changed : Key → (Order → Order) → List ℕ → List ℕ
changed k f s = changed_at (place k (table_in s).orders - 1) f s

-- one order more, behind the others
abbrev pub appended : Order → List ℕ → List ℕ
appended o s = sets (sets s (slot_at (count_in s)) (slot_bytes o)) 0 (le_bytes 4 (count_in s + 1))

-- the 49 bytes of the quote row at place i
abbrev pub row_of : List ℕ → ℕ → List ℕ
row_of s i = record_of (rows (base_in s)) s i

-- the quote row at place i changed
abbrev pub row_changed_at : ℕ → (QuoteRow → QuoteRow) → List ℕ → List ℕ
row_changed_at i f s = sets s (row_at (base_in s) i) (row_bytes (f (row_in (row_of s i))))

-- the row of a quote changed
abbrev pub row_changed : Quote → (QuoteRow → QuoteRow) → List ℕ → List ℕ
row_changed q f s = row_changed_at (row_place q (table_in s).quotes - 1) f s

-- one quote row more, behind the others
abbrev pub row_appended : QuoteRow → List ℕ → List ℕ
row_appended w s = sets (sets s (row_at (base_in s) (row_count_in s)) (row_bytes w)) 5 ((row_count_in s + 1) ∷ [])
