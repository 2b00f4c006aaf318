-- Numbers in a lent buffer, little end first
pub mod Cells
