pub mod Kept
pub mod Rising
pub mod Links
pub mod Runs
pub mod Slots
pub mod Parts
pub mod Room
pub mod Undone
