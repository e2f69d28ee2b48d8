-- A machine that does the search one row at a time, for the laws and the proofs above them: no part of what a search is.
pub mod Machine
pub mod Weight
pub mod Levels
