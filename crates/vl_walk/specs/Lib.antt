pub mod Asked
pub mod Library
