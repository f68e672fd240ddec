pub mod Apart
mod Examples
pub mod PartsLaw
pub mod ValuesLaw
pub mod Bits
pub mod ReadsLaw
pub mod Puts
pub mod SameValues
pub mod SettlesOnce
pub mod BitsLaw
