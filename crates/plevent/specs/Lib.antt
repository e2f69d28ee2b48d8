pub mod Batches
pub mod Alive
pub mod Reading
pub mod Rows
pub mod Search
pub mod First
pub mod Keys
