mod Freeing
pub mod Keeping
mod Changing
mod Committing
mod Unified
pub mod Putting
pub mod Terms
pub mod Converting
mod Gathering
mod Nodes
mod Parts
mod Building
mod Packing
pub mod Rows
mod Calling
pub mod Cuts
pub mod Renaming
pub mod Bounding
pub mod Lowering
mod Marking
pub mod Solving
