-- Printable, space, digit, hex
pub mod Byte
-- The kinds of field that stay as they stand
pub mod Verbatim
-- Fields with a value: how they are read and written
pub mod Number
-- Numbers, digits and prices are one to one, however long
pub mod Widths
