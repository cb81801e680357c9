pub mod LaidLaws
pub mod Done
pub mod Settled
