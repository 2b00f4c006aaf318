-- The earliest record with a key, and keys that all differ
pub mod Searches
-- The tag of a key, and its bucket
pub mod Tags
-- What the index holds, and what entering and building it keep
pub mod Indexes
