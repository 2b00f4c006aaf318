-- Digits behind spaces or zeros read back as written
pub mod Fill
-- Each reader takes what its writer wrote, and nothing else
pub mod Laws
-- What a fold over a field's bytes says
pub mod Scan
-- What a reader's tests say of its answer
pub mod Returns
-- What a loop that writes a field keeps
pub mod Stores
-- The one-to-one laws, and that digits are the fewest
pub mod Widths
