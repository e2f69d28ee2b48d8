mod Work
mod Verdicts
mod Progressing
mod Giving
pub mod Clashing
