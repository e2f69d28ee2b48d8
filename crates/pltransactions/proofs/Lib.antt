mod Contexts
mod Balls
mod Fitting
mod FittingRows
mod FittingTurns
pub mod Transactions
pub mod Opening
