pub mod Answered
pub mod Refuted
pub mod Together
pub mod Unsaid
