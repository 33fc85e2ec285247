pub mod Adding
pub mod Closing
pub mod Number
pub mod Refuted
