-- The test of two quotes says equality
pub mod Sameness
-- Rows with one more at the end
pub mod Rows
-- How many rows a table has room for
pub mod Named
