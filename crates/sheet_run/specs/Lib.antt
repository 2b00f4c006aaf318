-- What holds of a chunk, the end and all input
pub mod Promises
