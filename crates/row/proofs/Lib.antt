-- A number has the fewest digits and reads back
pub mod Decimals
-- A run without the spaces on its right
pub mod Trimming
-- Texts written one behind the other are one text
pub mod Puts
-- A row from the parts of an order's slot
pub mod Lent
-- The line of a quote row from the parts of its bytes
pub mod LentQuote
-- A heading has at most 24 bytes, a row 78, the line of a quote row 52
pub mod Bounds
