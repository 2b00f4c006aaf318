-- Where records and their keys stand
pub mod Places
-- What a store leaves, and what it says
pub mod Stores
-- What all records say after a store and an append
pub mod Lists
