pub mod Views
pub mod DeclaredRules
