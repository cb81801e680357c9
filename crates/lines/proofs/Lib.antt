pub mod NumberLaws
pub mod SaidLaws
pub mod ReadLaws
pub mod FieldLaws
pub mod Exactly
pub mod ScanLaws
pub mod Settled
