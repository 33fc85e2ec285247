pub mod Answered
pub mod Refuted
pub mod Spelt
