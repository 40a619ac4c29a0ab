pub mod Bank
pub mod Permission
