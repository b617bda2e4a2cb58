pub mod Aging
pub mod Pass
