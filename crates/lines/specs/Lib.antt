pub mod Gather
pub mod Lines
pub mod Moves
pub mod Promise
pub mod Reader
pub mod Tell
