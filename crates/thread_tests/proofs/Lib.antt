pub mod Bare
pub mod Wide
pub mod Failing
pub mod Idle
pub mod Brief
