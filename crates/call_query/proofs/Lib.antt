pub mod QueryLaws
pub mod Cases
