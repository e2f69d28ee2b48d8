pub mod App
mod Numbers
pub mod Answered
