-- What writing a record answers and leaves
pub mod Promises
-- What each lot of fields leaves to the next
pub mod Writes
