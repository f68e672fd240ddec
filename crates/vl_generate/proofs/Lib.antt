pub mod Choosing
pub mod Forming
pub mod NextTurns
