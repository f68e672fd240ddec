pub mod Apart
pub mod Steps
pub mod Labels
mod Turns
pub mod Opened
pub mod Heard
pub mod Scopes
