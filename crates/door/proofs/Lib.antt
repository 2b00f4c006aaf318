-- From a record's bytes to a line: each way out
pub mod Writings
-- Every answer is 0 or numbered, and refusals change nothing
pub mod Demand1
-- Writing names the earliest field that does not stand
pub mod FirstField
-- What was read or written comes back as the very bytes
pub mod RoundTrip
-- Two outcomes that a promise allows are equal
pub mod Determined
