pub mod KeyLine
pub mod Promise
