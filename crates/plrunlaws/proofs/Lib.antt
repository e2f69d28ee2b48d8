mod Lists
mod Items
mod Served
mod Machines
pub mod Batches
pub mod Standing
mod Inside
pub mod Ends
mod Once
pub mod Transactions
pub mod Unended
pub mod InTurn
mod Worked
