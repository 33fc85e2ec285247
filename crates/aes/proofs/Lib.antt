pub mod Filled
pub mod Length
pub mod Refuted
