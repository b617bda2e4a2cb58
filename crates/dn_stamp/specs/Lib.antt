pub mod Join
pub mod Laws
pub mod Order
pub mod Stamp
