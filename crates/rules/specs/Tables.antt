-- Runs and cases, computed.
pub mod Slots
pub mod Runs
pub mod Cases
pub mod Scripts
pub mod RequestCases
pub mod CallCases
pub mod AshoreCases
pub mod NumberCases
pub mod RefusalCases
pub mod SoundCases
pub mod Phases
