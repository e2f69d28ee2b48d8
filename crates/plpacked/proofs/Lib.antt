pub mod Writing
pub mod Nesting
pub mod Closing
pub mod Adding
pub mod Steps
pub mod Shifting
pub mod Whole
