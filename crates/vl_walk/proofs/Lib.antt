pub mod Asking
pub mod Items
pub mod Looping
pub mod Supplying
pub mod Weights
