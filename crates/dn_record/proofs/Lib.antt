pub mod FaultLemmas
pub mod LayoutLemmas
pub mod NameLemmas
pub mod PartLemmas
pub mod RangeLemmas
pub mod ReadLemmas
pub mod WriteLemmas
