pub mod Arena
pub mod Changing
pub mod Numbering
