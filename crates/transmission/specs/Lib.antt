pub mod Answers
pub mod Layout
pub mod Writing
pub mod Phasing
pub mod Copies
pub mod Reading
-- transmissions worked out by hand: cases
pub mod Cases
