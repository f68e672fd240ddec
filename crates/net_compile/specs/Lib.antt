pub mod Cycle
pub mod Stands
pub mod Pieces
pub mod Lowered
pub mod Compiles
pub mod Quick
