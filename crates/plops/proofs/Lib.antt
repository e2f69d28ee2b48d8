pub mod Names
pub mod Ranks
pub mod Finds
pub mod Checks
pub mod Kept
pub mod Given
pub mod Worked
pub mod Told
