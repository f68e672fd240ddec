pub mod Names
pub mod TokenRule
pub mod ReturnRule
pub mod Ends
pub mod RuledEnds
