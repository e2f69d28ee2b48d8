pub mod Alone
pub mod Fitting
pub mod Turns
pub mod Wanting
pub mod Answers
