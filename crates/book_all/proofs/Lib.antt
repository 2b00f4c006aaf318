-- What a turn of the loop keeps
pub mod Turns
-- The answers that are given, one by one
pub mod Given
-- One call says what a call for each piece says
pub mod InTurn
-- A text in several calls is the text in one
pub mod Onward
-- Two outcomes that the promise allows are equal
pub mod Determined
-- No wrong way keeps the promise
pub mod Refuted
