pub mod Numbers
pub mod One
pub mod Shore
pub mod Terms
pub mod Three
pub mod Two
pub mod Unsaid
