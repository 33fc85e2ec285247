pub mod Bits
pub mod Block
pub mod Blocks
pub mod Digits
pub mod Joined
pub mod Padding
pub mod Refuted
pub mod Sixteen
