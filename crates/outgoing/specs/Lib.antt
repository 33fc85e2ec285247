pub mod Promise
pub mod Text
