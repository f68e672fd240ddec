pub mod Known
pub mod Lists
pub mod Objects
pub mod Rows
pub mod Terms
pub mod Told
