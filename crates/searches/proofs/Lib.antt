pub mod SearchLaws
pub mod Settled
