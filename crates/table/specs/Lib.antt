-- What lent bytes say, and when they have a meaning
pub mod Tables
-- An order changed, and one order more
pub mod Changes
-- What the damage check asks of each slot in turn
pub mod Passing
-- Where an order stands, and the order at a place
pub mod Entries
-- Each entry's answer, and each lent byte
pub mod Promises
