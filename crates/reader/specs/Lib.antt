-- The piece that begins at a place
pub mod Starting
-- A reader stands over lent text at its next place
pub mod Reading
-- The piece given is a part of the text, no copy
pub mod Handed
-- The pieces of a text, counted from 0
pub mod Numbering
