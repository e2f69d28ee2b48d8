pub mod Evaluable
pub mod Names
