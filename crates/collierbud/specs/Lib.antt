pub mod Answer
pub mod Inner
pub mod Promise
pub mod Unsaid
