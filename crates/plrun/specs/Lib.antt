pub mod Going
pub mod Halts
pub mod Overall
pub mod Threads
