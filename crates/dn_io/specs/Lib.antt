pub mod Lines
pub mod Memory
pub mod Moments
pub mod Options
pub mod Outside
pub mod Reading
pub mod Status
pub mod Stepping
