-- What a host asks of a sound table is there: the slots and the quote rows in use.
use Rattle.std.proofs.Common.{◌≡◌, ℕ, true, List, arith}
use Rattle.section.specs.Sections.{Holds}
use Rattle.slot.specs.Places.{slots}
use Rattle.quote_slot.specs.QuoteSlots.{rows}
use Rattle.table.specs.Tables.{count_in, row_count_in, base_in, sound}
use Rattle.table.proofs.Sound.{slots_there, rows_there}

pub slots_held : (s : List ℕ) → sound s ≡ true → Holds slots s (count_in s)
slots_held s e = record { apart = omega arith; inside = λ i l. omega (arith, slots_there s e) }

pub rows_held : (s : List ℕ) → sound s ≡ true → Holds (rows (base_in s)) s (row_count_in s)
rows_held s e = record { apart = omega arith; inside = λ i l. omega (arith, rows_there s e) }
