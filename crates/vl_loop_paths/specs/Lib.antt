pub mod Adding
pub mod Signals
