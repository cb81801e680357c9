pub mod TellLaws
pub mod Parts
pub mod Settled
