pub mod Fault
pub mod Promise
pub mod Stream
