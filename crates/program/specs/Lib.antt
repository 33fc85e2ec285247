pub mod Given
pub mod Hear
pub mod Promise
pub mod Reason
pub mod Run
