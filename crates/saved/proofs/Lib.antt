-- Runs joined, and bytes cut: one undoes the other
pub mod Cuts
-- A head is read as it was written, and written as it was read
pub mod Heads
-- An entry of any kind: a head, then numbers
pub mod Entries
-- Orders and quote rows are such kinds
pub mod Savable
-- A day is read as it was saved, and saved as it was read
pub mod Days
-- Each day is saved as one run of bytes, and no other bytes are it
pub mod SavedDays
