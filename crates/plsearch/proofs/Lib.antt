pub mod Fuel
pub mod Turns
pub mod Weight
pub mod Ends
pub mod Levels
pub mod Bounds
pub mod Cuts
pub mod HaltingRows
pub mod Halting
pub mod Starts
mod Worked
mod WorkedTransactions
pub mod WorkedClauses
