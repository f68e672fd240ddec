pub mod Parts
pub mod RangeRules
pub mod NamedRules
pub mod EventRules
