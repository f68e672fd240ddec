pub mod BitVectors
pub mod Causes
pub mod Least
pub mod Packing
