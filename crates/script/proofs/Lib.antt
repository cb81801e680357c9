pub mod LineLaws
pub mod TextLaws
pub mod SessionLaws
pub mod TranscriptLaws
pub mod PrintedLaws
pub mod Settled
