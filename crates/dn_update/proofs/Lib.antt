pub mod AddedLemmas
pub mod AddedRows
pub mod CallerLemmas
pub mod NameLemmas
pub mod PlacedLemmas
pub mod RecordSetLemmas
pub mod ValidAdded
pub mod ValidWritten
