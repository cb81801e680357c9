pub mod WriteLaws
pub mod CountLaws
pub mod FindLaws
pub mod SetUpLaws
pub mod DigitLaws
pub mod Theorems
pub mod Settled
