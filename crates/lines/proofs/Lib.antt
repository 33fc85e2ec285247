pub mod Finding
pub mod Moving
pub mod Plain
pub mod Reader
pub mod Refuted
pub mod Telling
pub mod Tidied
