pub mod Figures
pub mod Functions
pub mod Keysch
pub mod Limits
pub mod Taggen
pub mod Tagver
