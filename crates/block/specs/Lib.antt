pub mod Bits
pub mod Block
pub mod Promise
pub mod Figures
