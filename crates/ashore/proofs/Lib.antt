pub mod StoredLaws
pub mod Settled
