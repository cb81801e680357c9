pub mod DueLaws
pub mod Settled
