pub mod Starts
pub mod Readers
