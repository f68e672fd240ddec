pub mod Pieces
pub mod OneToken
pub mod Views
pub mod ExprRules
pub mod Chains
pub mod StmtRules
pub mod ModuleRules
