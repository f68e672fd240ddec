pub mod Making
pub mod Added
