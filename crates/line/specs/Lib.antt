-- Each entry's answer in the paper's numbers and values
pub mod Promises
-- What groups of fields say, and all of them
pub mod Groups
