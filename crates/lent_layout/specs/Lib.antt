pub mod Layout
pub mod Numbers
pub mod Meanings
pub mod Stations
pub mod Sizes
pub mod Statement
