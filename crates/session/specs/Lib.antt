pub mod Cut
pub mod Inner
pub mod Output
pub mod Promise
pub mod Session
