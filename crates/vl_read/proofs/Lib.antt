pub mod Pieces
pub mod Fails
pub mod Places
pub mod Leads
pub mod TokenRules
pub mod CommaRules
