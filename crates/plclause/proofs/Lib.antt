pub mod GoalNodes
pub mod Conversions
pub mod Seen
pub mod Numbered
pub mod Necks
pub mod Names
pub mod Worked
pub mod Arguments
pub mod Each
mod Grounded
