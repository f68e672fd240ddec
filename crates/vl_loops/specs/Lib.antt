pub mod Statements
pub mod Loops
