pub mod CallerLemmas
pub mod LineTurns
pub mod OnceLemmas
pub mod ShowLemmas
pub mod SinkLemmas
pub mod ValuesBack
