pub mod Entering
pub mod Passing
pub mod Placing
pub mod Walking
