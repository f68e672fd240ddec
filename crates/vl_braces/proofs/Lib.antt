pub mod Copied
pub mod Together
