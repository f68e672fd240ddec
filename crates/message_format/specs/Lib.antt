pub mod Draft
pub mod Events
pub mod Format
pub mod Formatted
pub mod Laws
pub mod Pieces
pub mod Plain
