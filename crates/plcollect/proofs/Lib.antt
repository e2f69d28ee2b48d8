mod Parting
pub mod Copying
mod Numbering
mod Holding
mod Listing
mod Seeing
