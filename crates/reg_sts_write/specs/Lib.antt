pub mod Completion
pub mod Sts
