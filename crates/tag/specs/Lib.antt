pub mod Answer
pub mod Difference
pub mod Fault
pub mod Inner
pub mod Promise
pub mod Tag
pub mod Told
