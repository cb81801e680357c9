pub mod Passed
pub mod DigitLaws
pub mod Settled
