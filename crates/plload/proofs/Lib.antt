pub mod Parts
pub mod Once
pub mod Turns
pub mod Loadings
pub mod Wholes
pub mod Worked
