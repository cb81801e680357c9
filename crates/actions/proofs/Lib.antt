pub mod ActionLaws
pub mod Speaking
pub mod Settled
pub mod Saying
pub mod Handed
