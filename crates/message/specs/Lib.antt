-- One field: how it is read, lawful and written
pub mod Rule
-- What a field says, made and taken apart
pub mod Values
-- Any table of fields, and how a message goes by it
pub mod Fields
-- The first field of which a test fails
pub mod First
-- Messages and lawful values are one to one, whatever the table
pub mod Exact
