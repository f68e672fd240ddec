pub mod Adding
pub mod Choosing
pub mod Entering
pub mod Turning
