pub mod Rooms
pub mod Steps
pub mod Statement
pub mod Scripts
pub mod Sample
