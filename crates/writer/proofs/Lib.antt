pub mod Framed
pub mod Laid
pub mod Number
pub mod Refuted
pub mod TagBits
pub mod Told
