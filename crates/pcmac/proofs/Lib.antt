pub mod Figures
pub mod Keysch
pub mod Taggen
pub mod Tagver
