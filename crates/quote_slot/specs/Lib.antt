-- A quote row in its 49 bytes, and one row after another
pub mod QuoteSlots
