pub mod Vcd
pub mod Reader
pub mod Writer
pub mod Writes
pub mod Cycle
pub mod Heading
