pub mod Forms
pub mod Arguments
pub mod Commands
