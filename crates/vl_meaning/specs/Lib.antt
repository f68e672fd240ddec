pub mod Objects
pub mod Faults
pub mod Expression
pub mod Statement
pub mod Run
pub mod Shown
pub mod StandsFor
