-- The series as it stands at the end of a head
pub mod Series
-- What reading answers, by what stands at a place
pub mod Reads
