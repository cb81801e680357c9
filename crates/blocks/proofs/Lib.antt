pub mod BlockLaws
pub mod LaidLaws
pub mod Settled
