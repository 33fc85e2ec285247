pub mod Count
pub mod Stream
pub mod Walk
