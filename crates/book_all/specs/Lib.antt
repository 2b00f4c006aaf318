-- Pieces booked one after another
pub mod InTurn
-- What a text in one call promises
pub mod Promises
-- Wrong ways that the promise rules out
pub mod Wrong
