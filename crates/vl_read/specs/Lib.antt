pub mod Reading
pub mod Tokens
pub mod Faults
pub mod Commas
