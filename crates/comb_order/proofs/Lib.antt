pub mod First
pub mod Ranges
pub mod Nodes
pub mod Distances
pub mod Rounds
pub mod ByLabels
pub mod Rises
pub mod Exclusion
pub mod Quickly
pub mod Exists
mod Examples
