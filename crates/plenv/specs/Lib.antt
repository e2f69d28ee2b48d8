pub mod Env
pub mod Changes
pub mod Rows
pub mod Blocks
pub mod Marks
pub mod Solving
