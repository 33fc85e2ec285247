pub mod Frame
pub mod Open
pub mod Promise
pub mod Told
