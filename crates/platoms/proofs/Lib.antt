mod Tables
mod Copying
mod Growing
mod Layers
pub mod Extending
