-- Things of one kind, one behind another
pub mod Lists
-- Groups of seven bits, written and read
pub mod Numbers
-- The groups read so far, and those behind them
pub mod Reading
-- Things read one behind another
pub mod Behind
-- Numbers read into lent ones
pub mod ReadingAll
-- What is written, and what is left to write
pub mod Writing
