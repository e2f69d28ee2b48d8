pub mod Converting
pub mod Shapes
pub mod Walking
pub mod Joining
pub mod Rows
pub mod Calling
