-- The entries of a saved day, and how long one can be
pub mod Saving
-- A text into a lent buffer: how long it is, or 4
pub mod Texts
-- What saving answers and writes
pub mod Promises
