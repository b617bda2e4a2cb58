pub mod CallerLemmas
pub mod ProperCommands
