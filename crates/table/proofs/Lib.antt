-- What a table's length says of its limit and of its slots' places
pub mod Limits
-- Undamaged orders have room in their slots
pub mod Fitting
-- Stored bytes follow the table through each of its changes
pub mod Holding
-- What a place says of the quote rows
pub mod RowLookups
-- Stored bytes follow the quote rows through their changes
pub mod RowHolding
-- Bytes are sound exactly where they hold an undamaged table
pub mod Sound
-- One flag goes up, and no other changes
pub mod Marking
-- What holds of all orders holds of one among them
pub mod Splits
-- What a pass over orders keeps from order to order
pub mod Following
-- What the damage check keeps from slot to slot
pub mod Passes
-- What it keeps from quote row to quote row
pub mod RowPasses
-- Each way out of the damage check
pub mod Answers
-- The empty table keeps its promise and is sound
pub mod Making
-- What a host asks for is there
pub mod Asking
-- Two outcomes that a promise allows are equal
pub mod Determined
