pub mod Over
pub mod Window
pub mod Progress
pub mod Ran
pub mod Calls
