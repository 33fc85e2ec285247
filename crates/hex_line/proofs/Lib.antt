pub mod BothWays
pub mod Digits
pub mod Judging
pub mod Outcome
pub mod Refuted
pub mod Told
pub mod Writing
