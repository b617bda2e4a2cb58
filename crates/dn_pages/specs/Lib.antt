pub mod Pages
pub mod Search
