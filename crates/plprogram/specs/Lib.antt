pub mod Settings
pub mod Changes
pub mod Program
pub mod Library
