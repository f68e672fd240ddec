pub mod Counted
pub mod Statements
pub mod Items
