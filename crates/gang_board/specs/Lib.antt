pub mod Seats
pub mod Sights
pub mod Begins
pub mod PostStates
pub mod CatchUp
