pub mod Field
pub mod Sbox
pub mod Promise
pub mod Figures
