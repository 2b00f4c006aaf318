-- How a text is cut, up to each LF
pub mod Pieces
-- What the pieces of a text are, described
pub mod Cuts
-- What `next` answers, in the paper's terms, and what `cut` does
pub mod Promises
