pub mod RowLaws
pub mod CodeLaws
pub mod Settled
pub mod Computed
