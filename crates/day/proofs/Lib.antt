-- 1. Keys and lookup
-- The letter of a line tells its event
pub mod Letters
-- Histories in which each key is made once, before its use
pub mod Legal
-- The first in a list that passes a test
pub mod Firsts
-- Finding, placing and changing orders by key
pub mod Lookup
-- 2. Checks
-- A list of tests answers by the first that applies
pub mod Chain
-- Tests 6 to 13 say what the refusals say of history
pub mod Checks
-- 3. Steps
-- A piece is accepted, or the table stays as it was
pub mod Booking
-- An accepted line changes orders as the longer history declares
pub mod Steps
-- The row that a lookup finds, and the rows that an accepted line leaves
pub mod Quotes
-- The answer is by the first refusal that applies
pub mod Verdict
-- 4. The table reached
-- Every table from empty on is what its history declares
pub mod Reached
-- N is the accepted A and U, F the accepted A
pub mod Counts
-- 5. Damage
-- What the tests say after a change or one order more
pub mod Orders
-- What holds of a line that no refusal stops
pub mod Admitted
-- Every event leaves one order's numbers sound
pub mod Figures
-- What a line gives an order may stand in the table
pub mod Lawful
-- A line that belongs to a quote row brings no damage to the rows
pub mod QuoteRows
-- A change, or one order more, brings no damage
pub mod Undamaged
-- Booking brings no damage, so no table reached has any
pub mod Sound
-- No table reached has two orders with one key
pub mod Keys
-- What an order replaces is earlier, and replaced only once
pub mod Elders
-- Replacements form lines without a cycle
pub mod Descent
-- 6. The listing
-- Ours is one as described, and the description fixes it
pub mod Listings
-- Every order stands in one row, and nothing else does
pub mod Shown
-- Each shows its order, and the sheet's description fixes it
pub mod Rows
-- 7. Demand 3
-- Our booking and our sheet meet it, at every limit
pub mod Demand3
-- The eight pieces of 01 and the case of quote rows compute
pub mod Case
-- Two that keep the same are one
pub mod Tables
-- Answers, tables and sheets follow from demand 3 alone
pub mod Settled
-- 8. Refutations
-- Each wrong booking or sheet breaks demand 3, by a witness
pub mod Refuted
-- And each that is wrong about quote rows
pub mod RefutedQuotes
