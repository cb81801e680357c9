pub mod RuleLaws
pub mod Settled
