pub mod Laws
pub mod Named
pub mod Pieces
pub mod Plain
pub mod Reading
pub mod Report
pub mod Words
pub mod Writes
