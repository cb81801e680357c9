pub mod Views
pub mod Phases
pub mod Images
