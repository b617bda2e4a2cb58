-- Valid changes can be taken.
use Rattle.std.specs.Prelude.{IsTrue}
use Rattle.dn_store.specs.Valid.{IsValidWrite}
use Rattle.dn_store.specs.Value.{fits}
use Rattle.dn_store.proofs.CallerLemmas.{all_then}
use Rattle.dn_link.specs.Sent.{CanBeTaken, IsValidRun, Run}

pub valid_taken : (run : Run) → IsValidRun run → CanBeTaken run.units
valid_taken run valid = record {
  keys = valid.keys;
  values = all_then (IsValidWrite run.zone) (λ write. IsTrue (fits write.value)) run.units (λ write is. is.fitting) valid.units;
  count = valid.count;
}
