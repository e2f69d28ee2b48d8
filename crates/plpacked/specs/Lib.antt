pub mod Taking
pub mod Unfinished
pub mod Putting
