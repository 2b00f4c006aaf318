-- One field reads back as written, at every width
pub mod Rules
-- Fields one behind another, of any number
pub mod Fields
-- What groups of fields say by themselves, and all together
pub mod Groups
-- A lawful value has one form, by its rule
pub mod Shapes
-- Which field fails soonest, and what that answer says
pub mod First
-- What holds of any table whose fields are placed and fit
pub mod Exact
