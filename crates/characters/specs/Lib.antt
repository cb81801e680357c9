pub mod Rows
pub mod Code
-- characters worked out by hand: cases
pub mod Cases
