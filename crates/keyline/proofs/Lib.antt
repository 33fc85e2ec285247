pub mod Answered
pub mod Refuted
