pub mod ApartLaws
pub mod Settled
