pub mod Kept
pub mod Packed
pub mod Turned
pub mod Words
