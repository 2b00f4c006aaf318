-- The tag by sums that wrap, and the bucket
pub mod Tagging
-- The first record that a test holds of
pub mod Firsts
-- A walk down a chain finds the earliest record
pub mod Chains
-- One record more
pub mod Entering
-- Stores that leave the index
pub mod Keeping
-- What a lookup and distinct keys mean, in words
pub mod Meanings
-- The earliest record with a key in the list of records
pub mod Listed
-- A record whose key leads to it is the earliest with that key
pub mod Repeats
