pub mod IdentityLaws
pub mod FieldLaws
pub mod NumberLaws
pub mod RoundTrip
pub mod Theorems
