pub mod Added
pub mod Passed
pub mod Counted
