-- Two texts, one behind the other, are one text
pub mod Joining
-- What a pass over the elders of orders keeps
pub mod Seeking
-- From one order of the listing to the next
pub mod Turning
-- One order more is noted, for its elder alone
pub mod Noting
-- The row of one order, then a stretch of those behind it
pub mod Stepping
-- Stretch after stretch is the whole text
pub mod Stretches
-- The space left decides as all of it does
pub mod Fitting
-- What the walk writes are the rows of the sheet
pub mod Rowing
-- What is done of the quote section and the lines left are all of it
pub mod Quoting
-- Each way out of the sheet keeps the promise
pub mod Answering
-- Pages joined are one page; each way out of a page keeps its promise
pub mod Paging
-- 24 bytes, 78 a row and 52 a quote row are always enough
pub mod Bound
-- Two outcomes that a promise allows are equal
pub mod Determined
-- A text that opens with N and F says both
pub mod Headings
-- Two sound tables: empty, and with one order
pub mod Witnesses
-- Invented N and F, or one sheet for all, fail
pub mod Refuted
