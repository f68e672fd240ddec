pub mod RowLaws
pub mod RanLaws
pub mod AgainLaws
