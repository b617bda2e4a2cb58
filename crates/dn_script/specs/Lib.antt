pub mod Asking
pub mod Laws
pub mod Line
pub mod Passes
pub mod Play
pub mod Print
pub mod PrintReply
