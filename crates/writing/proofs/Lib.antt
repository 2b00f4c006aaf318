-- A record's 24 rows with their values and bytes
pub mod Fields
-- A check of all fields, by that of each group
pub mod Checks
-- Runs stored one behind another make up the line
pub mod Puts
-- A record that is written is its line
pub mod Writings
-- Two answers that the promise allows are equal
pub mod Determined
