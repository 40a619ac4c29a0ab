pub mod Size
pub mod Status
