-- Calls for the rest of a chunk serve all of it
pub mod Turns
-- Chunk after chunk, what is written is what 01 says
pub mod Leading
