pub mod Refuted
pub mod Sent
