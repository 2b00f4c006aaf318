-- What stands at the front of bytes, one thing behind another
pub mod Taken
-- A number in groups of seven bits
pub mod Groups
