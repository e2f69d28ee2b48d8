pub mod Packing
pub mod Items
pub mod Finding
pub mod Unpacking
pub mod Faults
pub mod Shared
