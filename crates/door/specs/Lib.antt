-- Each entry's number, and each lent number and byte
pub mod Promises
-- The tender's demand of the fourteen entries
pub mod Demand1
-- Writing names the earliest field that does not stand
pub mod FirstField
-- Reading and writing undo each other
pub mod RoundTrip
