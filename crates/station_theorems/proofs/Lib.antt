pub mod ReadBack
pub mod Laid
pub mod Steps
pub mod Traces
pub mod Theorems
pub mod Sampled
pub mod Scripted
