pub mod FaultLemmas
pub mod OnceLemmas
pub mod RangeLemmas
pub mod WritingLemmas
