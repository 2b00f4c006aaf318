-- An order in its 80 bytes
pub mod Slots
-- One slot after another, and the lookup by key
pub mod Places
