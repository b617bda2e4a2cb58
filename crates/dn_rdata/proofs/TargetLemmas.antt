-- The name that a record leads to.
use Rattle.std.proofs.lemmas.List.{drop_min}
use Rattle.std.proofs.Common.{◌≡◌, ℕ, List, length, drop, Some, ap, ◌∙◌}
use Rattle.std.specs.Prelude.{min}
use Rattle.dn_io.specs.Options.{◌>>=◌}
use Rattle.dn_name.specs.Name.{Labels}
use Rattle.dn_name.specs.Wire.{plain_name}
use Rattle.dn_rdata.specs.declared.record.Record.{Record}
use Rattle.dn_rdata.specs.Data.{target_of}
use Rattle.dn_rdata.specs.Record.{bytes_before_names}

pub target_found : (row : Record) (bytes : List ℕ) (name : Labels) (rest : List ℕ) → Some (name, rest) ≡ plain_name bytes → bytes ≡ drop (bytes_before_names row.rtype) row.rdata → Some name ≡ target_of row
unfolding target_of
target_found row bytes name rest is at = ap (λ there. there >>= (λ found. Some found.0)) (is ∙ ap plain_name at)

-- no more is dropped than there is
pub drop_cut : (count at : ℕ) (bytes : List ℕ) → at ≡ min count (length bytes) → drop at bytes ≡ drop count bytes
drop_cut count at bytes is = ap (λ most. drop most bytes) is ∙ drop_min count bytes
