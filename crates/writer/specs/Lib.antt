pub mod Line
pub mod Promise
pub mod Told
