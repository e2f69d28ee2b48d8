pub mod Flags
pub mod Format
