pub mod Views
pub mod Heads
pub mod ItemRules
