-- Parts, sameness, and what holds of bytes
pub mod Runs
-- A place, or none
pub mod Found
-- Bytes compared eight at a time
pub mod Words
