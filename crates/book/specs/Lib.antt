-- What booking a piece does to a lent table
pub mod Bytes
-- The entry answers and leaves the table as the rules say
pub mod Promises
-- What a line is to change, and the table after it
pub mod Plans
-- Bookings that the promise must not allow
pub mod Wrong
