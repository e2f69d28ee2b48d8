pub mod Fetching
pub mod Knowing
pub mod Solver
pub mod Going
pub mod Says
pub mod Asking
pub mod Advancing
