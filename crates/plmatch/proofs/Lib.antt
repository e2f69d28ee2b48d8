pub mod Instances
pub mod Matches
pub mod Bare
mod Worked
