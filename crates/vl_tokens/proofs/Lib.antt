pub mod Counting
pub mod Parts
pub mod StatementParts
pub mod DeclarationParts
pub mod ItemParts
