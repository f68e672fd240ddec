pub mod Targets
pub mod Readers
pub mod Starts
pub mod Simple
