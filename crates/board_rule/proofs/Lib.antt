pub mod Lists
pub mod Words
pub mod PostsSteps
pub mod Keeps
pub mod Steps
pub mod Seated
pub mod Laws
pub mod Allowed
