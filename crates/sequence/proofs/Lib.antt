pub mod Tests
pub mod Rest
pub mod Paste
pub mod RefusalLaws
pub mod AnswerLaws
pub mod Settled
