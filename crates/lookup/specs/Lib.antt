-- The index of a table's keys beside it, or none
pub mod Beside
-- A day's table and index, handed on and given back
pub mod Lent
