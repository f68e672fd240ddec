pub mod ByteLaws
pub mod LeastLaws
pub mod PackingLaws
pub mod RowLaws
pub mod WritesLaws
