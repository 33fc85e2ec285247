pub mod Walk
pub mod Cut
pub mod Parts
pub mod View
pub mod Count
