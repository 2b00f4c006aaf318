-- A quote, the row of its fills, and when either is lawful
pub mod Quotes
-- Rows one after another, and the one of a quote
pub mod Rows
