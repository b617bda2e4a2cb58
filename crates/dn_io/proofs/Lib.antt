pub mod LineEndLemmas
pub mod LineReaderLemmas
pub mod PieceLemmas
