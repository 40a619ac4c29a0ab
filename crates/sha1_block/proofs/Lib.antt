pub mod BlockLaws
pub mod RoundLaws
pub mod Vectors
