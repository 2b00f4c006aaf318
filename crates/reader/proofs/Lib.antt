-- What an answer says of the reader's next place
pub mod Standing
-- Where each piece starts, counted from 0, and its bytes
pub mod Numbers
-- All pieces, each once and in order, then nothing
pub mod Given
