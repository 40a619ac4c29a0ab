pub mod ModelLaws
pub mod Invariant
pub mod Fairness
pub mod Arbitration
