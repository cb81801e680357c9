pub mod Decimal
pub mod Lines
pub mod Readable
pub mod Found
pub mod Statement
