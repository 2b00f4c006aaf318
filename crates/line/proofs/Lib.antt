-- The fields of a printable line are printable
pub mod Printable
-- What the groups say makes the record of a line
pub mod Groups
-- A strike's unit
pub mod Forms
-- Each way out of reading a piece keeps the promise
pub mod Readings
-- Two answers that a promise allows are equal
pub mod Determined
