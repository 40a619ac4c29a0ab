pub mod Capture
pub mod Claims
