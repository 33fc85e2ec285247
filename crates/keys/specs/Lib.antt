pub mod Answer
pub mod Arrangement
pub mod KeysIn
pub mod Promise
pub mod SetNumber
pub mod Store
pub mod Told
