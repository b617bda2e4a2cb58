pub mod Aging
pub mod Ask
pub mod Datagram
pub mod Laws
pub mod Runs
pub mod State
pub mod World
