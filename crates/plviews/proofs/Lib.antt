pub mod Seen
pub mod Heads
pub mod Telling
pub mod Naming
pub mod Layering
mod Worked
