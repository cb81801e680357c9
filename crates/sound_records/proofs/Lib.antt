pub mod KeepLaws
pub mod Settled
