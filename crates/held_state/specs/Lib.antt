pub mod Slots
pub mod States
pub mod Kept
pub mod Moves
pub mod Back
pub mod Writes
pub mod Noting
