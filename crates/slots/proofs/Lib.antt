pub mod QueueLaws
pub mod PhaseLaws
pub mod ViewLaws
pub mod TidyLaws
pub mod ImageLaws
pub mod Settled
