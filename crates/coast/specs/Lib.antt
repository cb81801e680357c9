pub mod Sequences
pub mod Transmissions
pub mod Finding
pub mod Events
pub mod Digits
pub mod Statement
