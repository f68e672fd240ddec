pub mod Choices
pub mod Forms
pub mod Turning
