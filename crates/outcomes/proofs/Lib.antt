pub mod WaitLaws
pub mod ArmLaws
pub mod PartLaws
pub mod Settled
