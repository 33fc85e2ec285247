pub mod Faultless
pub mod HandedOn
pub mod Formed
pub mod Held
pub mod Limit
pub mod Refuted
pub mod Total
pub mod Zeros
