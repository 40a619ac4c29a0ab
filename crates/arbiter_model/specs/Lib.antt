pub mod Model
pub mod Waits
pub mod Claims
