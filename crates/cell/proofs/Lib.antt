-- What is written is read back; stores elsewhere change nothing
pub mod Laws
-- What is done and what is left give the same end
pub mod Loops
