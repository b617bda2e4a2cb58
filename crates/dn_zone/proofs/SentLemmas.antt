-- The changes of a table can be taken: there are no more of them than a packet has room for.
use Rattle.std.proofs.Common.{◌≡◌, ℕ, ◌≤◌, List, length, map, arith, sym, ap, subst, ◌∙◌}
use Rattle.std.specs.Prelude.{IsTrue}
use Rattle.std.specs.List.{AllByRecursion}
use Rattle.dn_store.specs.declared.table.ChangeRun.{ChangeRun}
use Rattle.dn_store.specs.declared.unit.Unit as units
use Rattle.dn_store.specs.declared.unit.Write.{Write}
use Rattle.dn_store.specs.Table.{KeysDiffer, run_after, write_of}
use Rattle.dn_store.specs.Value.{fits}
use Rattle.dn_store.proofs.CallerLemmas.{run_short}
use Rattle.dn_link.specs.Sent.{CanBeTaken, units_limit}

pub run_taken : (usn room top : ℕ) (list seen : List units.Unit) (run : ChangeRun) (writes : List Write) → room ≤ units_limit
    → writes ≡ map write_of seen → seen ≡ run.units → run ≡ run_after usn room top list
    → KeysDiffer (map write_of run.units) → AllByRecursion (λ write. IsTrue (fits write.value)) (map write_of run.units)
    → CanBeTaken writes
run_taken usn room top list seen run writes most are is ran keys values =
    let e : map write_of run.units ≡ writes = sym (are ∙ ap (map write_of) is) in
    let here : length (map write_of run.units) ≤ room =
    subst (λ (one : ChangeRun). length (map write_of one.units) ≤ room) (sym ran) (run_short usn room top list) in
    let count : length (map write_of run.units) ≤ units_limit = omega arith in
    record {
      keys = subst KeysDiffer e keys;
      values = subst (AllByRecursion (λ write. IsTrue (fits write.value))) e values;
      count = subst (λ (all : List Write). length all ≤ units_limit) e count;
    }
