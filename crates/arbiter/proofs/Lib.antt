pub mod WaitingMask
pub mod Agreement
pub mod Cases
