pub mod Dividing
pub mod Groups
pub mod Named
pub mod Formatted
pub mod Numerals
pub mod Items
pub mod Arguments
pub mod Errors
