pub mod Data
pub mod Passing
