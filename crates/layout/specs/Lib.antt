-- The 24 fields of a line
pub mod Layout
-- Answers about fields that some lines leave blank
pub mod ByType
-- A field that keeps its rule, or the refusal for it
pub mod Kept
-- The 24 values of a line, joined and taken apart
pub mod Records
-- Reading a piece and writing a record, refusals 1 to 4
pub mod Line
-- The time of day that a timestamp means
pub mod Clocks
-- A value in hundred-thousandths of a dollar, and its form
pub mod Strikes
-- No strike value can be written in two ways
pub mod Forms
-- Characters as bytes, for the examples
pub mod Text
-- Both sides of each bound, whole lines and broken ones
pub mod Examples
-- The tender's demand of any reader and any writer
pub mod Demand2
-- Demand 2 leaves nothing open
pub mod Settled
-- Readers and writers that demand 2 must rule out
pub mod Wrong
