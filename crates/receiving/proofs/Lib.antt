pub mod AnswerLaws
pub mod Settled
