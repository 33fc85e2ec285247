pub mod Number
pub mod Refuted
pub mod Whole
