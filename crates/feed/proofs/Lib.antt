-- A refusal line has at most 46 bytes
pub mod Longest
-- A refusal line is its parts, one behind the other
pub mod Reporting
-- What closes a piece, and where its LF can stand
pub mod Endings
-- As much of a piece is held as has room
pub mod Keeping
-- Booking looks at no more than what is held
pub mod Enough
-- What is written for a piece, and the table left
pub mod Saying
-- Done and left together are the step over the chunk
pub mod Turns
-- A step stays within its bounds and goes on
pub mod Advancing
-- At the end, room for the longest sheet is enough
pub mod Finishing
-- A step writes the front of what is left
pub mod Remaining
-- Counting lines in 64 bits leaves the text of 01
pub mod Numbering
-- Over any chunks and any stops 01's text is written
pub mod Whole
