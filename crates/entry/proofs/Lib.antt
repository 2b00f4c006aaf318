-- Runs that are stored one behind another
pub mod Stores
-- What the parts of a head, read one by one, say of it
pub mod Heads
-- What a head and numbers say of an entry, and an entry of what is made of it
pub mod Entries
