pub mod Shapes
pub mod Runs
pub mod Spans
pub mod Occurrences
