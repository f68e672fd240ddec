mod Whole
mod Views
mod Heads
mod ItemRules
mod BranchRules
mod StartRules
mod ModuleRules
pub mod Refusals
