pub mod Engine
pub mod Promise
