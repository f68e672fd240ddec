pub mod Spelled
pub mod FirstFault
pub mod Laws
pub mod Top
pub mod OneModule
pub mod Reads
pub mod Calls
