-- Stores one right behind the other are one store
pub mod Runs
-- What a change of an order leaves need not be stored again
pub mod Changing
-- A sound order fits into a slot
pub mod Room
-- A slot tells the order that was stored in it
pub mod Said
-- What a store does to slots, header and orders
pub mod Laws
-- Which order a place found by key stands for
pub mod Lookups
-- The earliest record with a key is the place of its order
pub mod Keyed
-- The stores of booking leave the index of the keys
pub mod Keeping
