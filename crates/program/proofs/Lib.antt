pub mod Answering
pub mod Hearing
pub mod Refuted
pub mod Running
