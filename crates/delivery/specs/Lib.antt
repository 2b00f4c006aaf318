-- Demand 2 of whatever keeps the promises of line and writing
pub mod Reading
-- Demand 3 at the bytes, for a host and the program
pub mod Delivered
