pub mod Answer
pub mod Digit
pub mod Inner
pub mod Line
pub mod Promise
pub mod Told
