pub mod Values
pub mod Declaring
