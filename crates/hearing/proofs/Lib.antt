pub mod SaidLaws
pub mod Settled
