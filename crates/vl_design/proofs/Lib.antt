mod Build
pub mod HeardLaws
mod HierarchyExamples
mod NameExamples
mod ObjectExamples
pub mod OwnTokens
pub mod TokenLaws
