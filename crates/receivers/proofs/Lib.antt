pub mod LengthLaws
pub mod OneLength
pub mod FirstLaws
pub mod Search
pub mod FoundLaws
pub mod Theorems
pub mod Computed
pub mod Settled
