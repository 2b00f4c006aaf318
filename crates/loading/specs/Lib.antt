-- Where what is read ends, and what storing it makes of a lent table
pub mod Loading
