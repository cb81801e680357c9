pub mod Back
pub mod Settled
