-- What stands as its line bytes: key or id, side and series
pub mod Heads
-- An order and a quote row as they are saved
pub mod Entries
-- The saved day, written and read
pub mod Days
-- What saving and loading are to one another
pub mod SavedDays
