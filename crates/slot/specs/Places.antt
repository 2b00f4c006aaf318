-- docs/LAYOUT.md, The lent table: the slots one after another, and the answer of a lookup by key.
use Rattle.std.specs.Prelude.{ℕ, List}
use Rattle.order.specs.declared.Order.{Order}
use Rattle.section.specs.Sections.{start_of, record_of, records_in, Inside}
use Rattle.section.specs.declared.Section.{Section}
use Rattle.slot.specs.Slots.{slot_width, order_in}
pub use Rattle.index.specs.Searches.{place_no}

-- slots of 80 bytes, one right behind the other, behind the header
abbrev pub slots : Section
slots = record { first = 8; step = slot_width; width = slot_width }

-- the key at the beginning of each slot: its Source, then its Token
abbrev pub slot_keys : Section
slot_keys = record { first = 8; step = slot_width; width = 26 }

abbrev pub slot_at : ℕ → ℕ
slot_at i = start_of slots i

abbrev pub slot : List ℕ → ℕ → List ℕ
slot s i = record_of slots s i

-- slot i lies within the bytes
abbrev pub SlotInside : ℕ → List ℕ → Type 0
SlotInside i s = Inside slots s i

-- n orders, the first of them at slot i
abbrev pub orders_in : ℕ → ℕ → List ℕ → List Order
orders_in i n s = records_in order_in slots s i n
