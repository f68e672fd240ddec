pub mod Stimulus
pub mod Refusals
pub mod Lines
pub mod Reader
pub mod Reads
pub mod Fits
pub mod Calls
