-- What the functions promise one another; no definition and no clause of the crate's own calls rests on it.
pub mod Nodes
pub mod Table
pub mod Registers
pub mod Front
pub mod Events
