pub mod Roots
pub mod Cells
pub mod Filling
pub mod Numbered
pub mod Spelled
pub mod Forwarding
