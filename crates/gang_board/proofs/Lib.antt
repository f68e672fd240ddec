pub mod Opening
pub mod PostSeats
pub mod Makes
pub mod Looks
pub mod Caught
pub mod CaughtLaggers
