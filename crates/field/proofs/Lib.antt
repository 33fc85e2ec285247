pub mod Inverse
pub mod Linear
pub mod Refuted
pub mod Table
