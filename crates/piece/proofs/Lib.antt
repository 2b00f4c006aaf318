-- How far a piece runs, and what its search keeps
pub mod Lengths
-- The next piece by its length, and those behind it
pub mod Firsts
-- The next piece as a loop lends it
pub mod Lent
-- What `next` answers is the first piece left
pub mod Promised
-- The pieces of a text that starts with a known run
pub mod Begun
-- The pieces made are those described, and no others are
pub mod Cutting
-- Two outcomes that the promise allows are equal
pub mod Determined
