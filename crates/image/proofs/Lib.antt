-- A record's numbers stand where they are put
pub mod Cells
-- What a record's bytes and numbers leave in a buffer
pub mod Stores
-- The first byte of a record without meaning
pub mod Odd
-- A lawful record stands in its line field by field
pub mod Fields
-- The field that stands in the way of writing
pub mod Sooner
-- A record that a line says returns from its bytes
pub mod Back
-- Bytes that may be written return from their line
pub mod Forth
-- The field named is the first that does not stand
pub mod Foremost
