pub mod Arguments
pub mod Structures
