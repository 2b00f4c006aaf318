-- What is said of fields that go by type or denominator
pub mod ByType
-- A record and its 24 fields are one to one
pub mod Values
-- A lawful piece says a lawful record, and conversely
pub mod Lines
-- What reading and writing say, case by case
pub mod Answers
-- Source and Token stand in a record as in its line
pub mod Names
-- No strike value can be written in two ways
pub mod Forms
-- The twelve of 01, whole lines and broken ones compute
pub mod Examples
-- Lawful lines and records are one to one, others refused
pub mod Demand2
-- Whatever has demand 2 answers as the written rules
pub mod Settled
-- Each wrong reader or writer breaks demand 2, by a witness
pub mod Refuted
-- What code answers is known by what it says
pub mod OneAnswer
