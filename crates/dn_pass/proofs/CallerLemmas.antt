-- What crates above may cite of these proofs.
pub use Rattle.dn_pass.proofs.LookedAtLemmas.{spans_all, spans_all_last, spans_count, spans_count_last}
pub use Rattle.dn_pass.proofs.StepProgress.{ahead_most, step_falls}
pub use Rattle.dn_pass.proofs.StepRows.{rows_swept, stale_is_wanted, swept_fresh, swept_is_written}
pub use Rattle.dn_pass.proofs.ValidSweep.{looked_valid, swept_valid}
