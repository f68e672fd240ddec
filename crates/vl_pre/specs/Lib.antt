pub mod Bytes
pub mod Tables
pub mod Faults
pub mod Pieces
pub mod Directives
pub mod CleanText
pub mod Calls
pub mod Laws
