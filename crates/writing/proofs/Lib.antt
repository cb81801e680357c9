pub mod EvenedLaws
pub mod Bounds
pub mod Valid
pub mod LayLaws
pub mod Asked
pub mod Settled
