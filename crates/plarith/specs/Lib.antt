pub mod Errors
pub mod Integers
pub mod Operations
pub mod Evaluation
pub mod Operands
pub mod Frames
pub mod Values
