pub mod Answered
pub mod Compared
pub mod Difference
pub mod Front
pub mod Number
pub mod Refuted
pub mod Tagged
pub mod Told
