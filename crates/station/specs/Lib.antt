pub mod Model
pub mod Step
pub mod Pieces
pub mod Changes
