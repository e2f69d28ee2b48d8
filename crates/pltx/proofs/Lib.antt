pub mod Targets
pub mod Marking
pub mod Drafting
pub mod Renaming
pub mod Layers
pub mod Putting
pub mod Fronts
pub mod Knowing
mod Worked
