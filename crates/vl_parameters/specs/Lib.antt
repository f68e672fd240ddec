pub mod Gifts
pub mod Open
pub mod Plain
