pub mod Sense
pub mod Nodes
pub mod Calls
