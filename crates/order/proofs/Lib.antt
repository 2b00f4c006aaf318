-- The tests of keys and of series say equality
pub mod Sameness
