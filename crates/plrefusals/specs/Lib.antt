pub mod Predicates
pub mod Values
pub mod Naming
