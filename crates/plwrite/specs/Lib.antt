pub mod Names
pub mod Styles
pub mod Words
pub mod Places
pub mod Writing
pub mod Tasks
pub mod Nodes
