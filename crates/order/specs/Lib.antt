-- Keys and series, and when two are the same
pub mod Names
-- What each event does to one order's six numbers
pub mod Figure
-- What a stored order may be
pub mod Stored
