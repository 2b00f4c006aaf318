-- How wide a row is, and its stores as one
pub mod Runs
-- The quote of a lawful line, and a sound row, have room
pub mod Room
-- A row says what was stored in it
pub mod Said
-- What a store does to rows and orders
pub mod Laws
-- Rows have one quote where their first 41 bytes are the same
pub mod Alike
