pub mod TargetRules
pub mod Steps
pub mod PartRules
pub mod Heads
pub mod SimpleRules
pub mod TaskRules
pub mod Views
