pub mod Matching
pub mod Rooms
