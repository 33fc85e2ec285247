mod Apart
pub mod Number
