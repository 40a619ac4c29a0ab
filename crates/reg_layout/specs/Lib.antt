pub mod Offsets
pub mod AccessBits
pub mod StsBits
pub mod InterruptBits
