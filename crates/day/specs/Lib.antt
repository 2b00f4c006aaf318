-- The day as its accepted lines declare it
pub mod History
-- The quote rows as its accepted lines declare them
pub mod Quotes
-- When each number applies, by the lines accepted before
pub mod Refusals
-- What a day keeps, and what booking a piece comes to
pub mod Tables
-- Which orders a sound table may keep
pub mod Damage
-- The sheet's rows: down a family, then to the next
pub mod Listing
-- The tender's demand of any booking and any sheet
pub mod Demand3
-- The eight pieces of 01, a case of quote rows, and what comes of them
pub mod Case
-- Demand 3 leaves nothing open
pub mod Settled
-- Our booking of a piece, which demand 3 fixes
pub mod Machine
-- Our making of the sheet, in one pass forward
pub mod Walk
-- Bookings and sheets that demand 3 must rule out
pub mod Wrong
