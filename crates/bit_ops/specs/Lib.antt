pub mod Applied
pub mod Laws
pub mod Operators
pub mod Reading
