pub mod CallerLemmas
pub mod LastKeyLemmas
pub mod LookedAtLemmas
pub mod StepPlanLemmas
pub mod StepProgress
pub mod StepRows
pub mod StepWrites
pub mod ValidSweep
