pub mod Blocks
pub mod Sent
