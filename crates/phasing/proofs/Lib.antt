pub mod CharacterLaws
pub mod StartLaws
pub mod Settled
