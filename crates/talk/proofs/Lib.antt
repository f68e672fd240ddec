pub mod DecimalLaws
pub mod FileLaws
pub mod OptionLaws
pub mod UsageLaws
pub mod WordsLaws
pub mod WritesLaws
pub mod WithinLaws
