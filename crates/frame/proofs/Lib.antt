pub mod Made
pub mod Number
pub mod Opened
pub mod Refuted
pub mod Verdict
