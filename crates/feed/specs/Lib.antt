-- What the sheet program writes for the text it reads
pub mod Printed
-- What is done with a chunk, and at the end
pub mod Steps
-- Any division into chunks, any stops, gives what 01 says
pub mod Whole
