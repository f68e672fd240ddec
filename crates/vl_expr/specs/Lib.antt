pub mod Starts
pub mod Ends
pub mod Lists
pub mod Parsed
pub mod Readers
