pub mod Finding
pub mod Here
pub mod Looking
pub mod Naming
pub mod Standing
