pub mod Operators
pub mod Tables
pub mod Sane
pub mod Changes
pub mod Checks
pub mod Given
pub mod Listing
pub mod Ranks
