pub mod Grow
pub mod Free
pub mod Rows
pub mod Steps
pub mod Ends
pub mod Serve
pub mod Settled
pub mod Start
