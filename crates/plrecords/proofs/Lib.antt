pub mod Law
pub mod Bits
pub mod Index
pub mod Chains
pub mod Passing
pub mod Backward
