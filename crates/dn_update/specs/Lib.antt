pub mod Node
pub mod Writes
