pub mod RefusalLaws
pub mod Settled
