-- Tests joined by and, and by or
pub mod Tests
-- A run from a byte on
pub mod Scan
-- All bytes of runs joined and cut, of a wider test; a byte of one
pub mod All
-- A part before, after and inside a run of stores
pub mod Parts
-- Stores one behind another, and over a whole buffer
pub mod Stores
-- Two runs that the test takes for the same are equal
pub mod Sameness
-- Two runs of eight bytes are the same where their numbers are
pub mod Words
-- A place or else none; the first of a list that passes a test
pub mod Found
