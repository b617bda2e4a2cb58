-- Decisions that definitions pick their values by: proofs, of which only the statements matter to a reader.
pub mod Fronts
pub mod Queries
pub mod Records
pub mod Standing
