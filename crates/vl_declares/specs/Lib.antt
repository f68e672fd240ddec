pub mod Functions
pub mod HeaderPorts
pub mod Items
pub mod Locals
pub mod Plain
pub mod Values
pub mod Variables
