pub mod Refuted
pub mod Room
pub mod Together
pub mod Walking
