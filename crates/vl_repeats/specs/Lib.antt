pub mod Flags
pub mod Routines
pub mod Sides
