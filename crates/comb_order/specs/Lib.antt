pub mod First
pub mod Ranges
pub mod Distance
pub mod Round
pub mod Labels
pub mod Found
pub mod Laws
