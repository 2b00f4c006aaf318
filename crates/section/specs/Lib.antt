-- Where the records of a section stand, and what they say
pub mod Sections
