pub mod Arrangement
pub mod KeysIn
pub mod Laid
pub mod Number
pub mod Ran
pub mod Refuted
pub mod SetNumber
pub mod Stored
