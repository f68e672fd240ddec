pub mod TargetRules
mod LoopRules
mod BlockRules
mod BranchRules
mod ArmRules
mod StartRules
mod Views
