pub mod Refuted
pub mod Words
