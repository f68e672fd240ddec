pub mod Paths
pub mod Lists
pub mod Numbers
mod Writes
