pub mod ArrayLaws
pub mod NumberLaws
pub mod Settled
