-- The entries of a saved day, and where each comes from
pub mod Days
-- How long front and entries are
pub mod Bounds
-- What the loops keep from entry to entry
pub mod Steps
-- How long a saved day can be
pub mod Longest
-- Each answer of saving keeps its promise
pub mod Answering
