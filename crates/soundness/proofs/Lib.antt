pub mod FitLaws
pub mod GatherLaws
pub mod SeenLaws
pub mod Settled
