pub mod Search
pub mod Whole
pub mod Look
pub mod Same
pub mod Since
pub mod Classes
pub mod Plans
pub mod Keys
mod Worked
pub mod Visible
pub mod Leading
pub mod Merging
pub mod Slotted
pub mod Names
pub mod Looking
pub mod Cutting
pub mod Tracing
