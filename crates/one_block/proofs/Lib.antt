pub mod Making
pub mod OfOperators
pub mod Signals
pub mod Settles
pub mod OldNodes
pub mod OfRegisters
pub mod Telling
pub mod Parts
pub mod Whole
mod CounterExample
