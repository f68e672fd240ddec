pub mod Ports
pub mod Scopes
pub mod Lowers
