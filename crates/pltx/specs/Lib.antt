pub mod Own
pub mod Walks
pub mod Overlays
