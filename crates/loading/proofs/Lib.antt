-- The bytes of a table hold it
pub mod Tables
-- What the check of orders keeps from order to order
pub mod Checking
-- What storing keeps from order to order, and from quote row to quote row
pub mod Storing
-- What reading quote rows into scratch keeps, and what is said of all of them
pub mod Rows
-- What a front, orders and rows, one behind another, say of a whole day
pub mod Whole
-- What storing the orders and rows of a day makes of a lent buffer
pub mod DayStored
