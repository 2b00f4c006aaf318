-- No two refusals share their number and their field
pub mod OneNumber
