-- The heading, a row and the line of a quote row, as bytes
pub mod Texts
-- What a writer leaves in a lent buffer
pub mod Writes
