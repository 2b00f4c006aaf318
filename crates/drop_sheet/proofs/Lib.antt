-- How large its buffers are
pub mod Sizes
