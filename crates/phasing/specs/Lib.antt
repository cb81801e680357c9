pub mod Characters
pub mod Starts
