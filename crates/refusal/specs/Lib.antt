-- Each refusal as the paper counts it, and its field
pub mod Numbers
-- What every entry says: a value or a refusal
pub mod Answer
