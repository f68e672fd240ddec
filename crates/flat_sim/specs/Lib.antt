pub mod Moment
pub mod Stops
pub mod Signals
pub mod Inside
pub mod Compared
