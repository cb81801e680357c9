pub mod Computed
pub mod LayLaws
pub mod StationLaws
pub mod FoundAgain
pub mod MeaningBack
pub mod Settled
