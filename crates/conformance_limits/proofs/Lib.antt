pub mod LimitsHold
