pub mod BusLaws
pub mod Cases
