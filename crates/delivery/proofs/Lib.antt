-- What keeps the promises has demand 2
pub mod Reading
-- A day by the promises has the bytes of demand 3
pub mod Delivered
