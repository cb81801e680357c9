pub mod Calls
pub mod Statement
pub mod Sequences
pub mod Finding
pub mod Characters
pub mod Transmissions
pub mod Scripts
