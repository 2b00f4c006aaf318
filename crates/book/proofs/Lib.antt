-- What a sound table gives to a line
pub mod There
-- Each way out of planning a line keeps the promise
pub mod Planned
-- Each way out of booking a piece keeps the promise
pub mod Booked
-- Booking keeps the length of a table
pub mod Lengths
-- A piece leaves a sound table sound, as the rules say
pub mod Machine
-- From the empty table on, bytes and rules always agree
pub mod Reached
-- Two outcomes that the promise allows are equal
pub mod Determined
-- No wrong booking keeps the promise, by a witness
pub mod Refuted
