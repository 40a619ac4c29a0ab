pub mod Effect
pub mod Writing
