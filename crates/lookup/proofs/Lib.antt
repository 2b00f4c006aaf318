-- The stores of booking keep the index beside the table, and one order more is entered
pub mod Beside
-- What is handed on twice is still what was lent
pub mod Lent
-- How large it is beside a table of the least limit
pub mod Sizes
