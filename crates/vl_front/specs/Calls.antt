-- What the functions promise one another, where that is longer than a line; no definition and no law rests on it.
pub mod Faults
pub mod First
