pub mod Equations
pub mod Fitting
pub mod Progress
