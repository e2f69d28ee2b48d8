pub mod Batches
pub mod Standing
pub mod Transactions
