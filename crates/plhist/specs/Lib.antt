pub mod Follows
pub mod Legal
pub mod Runs
pub mod Main
pub mod Report
pub mod Status
