pub mod Operators
pub mod Procedures
