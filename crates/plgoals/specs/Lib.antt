pub mod Goals
pub mod Extended
pub mod Callables
pub mod Forms
