pub mod Places
pub mod Narrow
pub mod SideKeeps
pub mod PostsKeep
pub mod PostsEnd
pub mod NetworkKeeps
pub mod NeverStuck
pub mod Falls
pub mod LeftAt
pub mod Steps
mod NetworkExamples
