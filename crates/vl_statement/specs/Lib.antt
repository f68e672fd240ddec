pub mod Targets
pub mod Readers
pub mod Parts
