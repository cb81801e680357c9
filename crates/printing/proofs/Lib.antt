pub mod PutLaws
pub mod ReplyLaws
pub mod DecimalLaws
pub mod PrintedLaws
pub mod Settled
