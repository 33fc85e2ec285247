pub mod Cipher
pub mod FourRounds
pub mod Promise
pub mod Schedule
