pub mod Alone
pub mod OneMore
mod Aliases
mod Worked
mod Reports
