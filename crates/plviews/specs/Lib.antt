pub mod Views
pub mod Lookups
pub mod Layers
