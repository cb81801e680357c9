pub mod FieldLaws
pub mod RecordLaws
pub mod Settled
