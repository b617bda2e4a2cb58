pub mod CallerLemmas
pub mod CutLemmas
pub mod JoinedLemmas
pub mod RowSearchLemmas
pub mod RowsLemmas
