pub mod Paths
pub mod Things
pub mod Meaning
pub mod Constant
pub mod Reads
pub mod Order
pub mod Faults
