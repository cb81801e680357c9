pub mod Answering
pub mod Lining
pub mod Session
pub mod Transcript
pub mod Printed
