mod Judging
mod Settling
mod Looking
pub mod Occurring
