pub mod Views
pub mod TokenSteps
pub mod ReturnSteps
pub mod Shapes
pub mod Closes
