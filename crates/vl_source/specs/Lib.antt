pub mod Parsed
pub mod Readers
pub mod Laws
