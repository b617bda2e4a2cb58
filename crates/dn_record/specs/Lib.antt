pub mod Fields
pub mod FirstFault
pub mod Header
pub mod Layout
pub mod Names
pub mod Parts
pub mod Ranges
pub mod Reads
