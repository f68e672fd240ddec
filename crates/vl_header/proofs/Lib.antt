pub mod BindRules
pub mod HeaderRules
