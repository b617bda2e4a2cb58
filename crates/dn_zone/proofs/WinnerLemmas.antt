-- Those of the writes that win can be taken, where all of them can.
use Rattle.std.proofs.Common.{◌≡◌, ◌≤◌, Bool, false, List, [], ◌∷◌, length, filter, arith, sym, ap, subst, ◌∙◌}
use Rattle.std.proofs.lemmas.Bool.{cond_both}
use Rattle.std.proofs.lemmas.List.Sums.{count_by-le-length, length-filter}
use Rattle.std.specs.Prelude.{IsTrue}
use Rattle.std.specs.Ordering.{is_eq}
use Rattle.dn_store.specs.declared.unit.Unit as units
use Rattle.dn_store.specs.declared.unit.Write.{Write}
use Rattle.dn_store.specs.Table.{KeysDiffer}
use Rattle.dn_store.specs.Value.{fits, key_order}
use Rattle.dn_store.proofs.CallerLemmas.{all_filter}
use Rattle.dn_link.specs.Sent.{CanBeTaken, units_limit}
use Rattle.dn_zone.specs.Merge.{winners, wins}

differ_filter : (test : Write → Bool) (list : List Write) → KeysDiffer list → KeysDiffer (filter test list)
differ_filter test [] differ = tt
differ_filter test (write ∷ list) differ =
    let later : KeysDiffer (filter test list) = differ_filter test list differ.1 in
    cond_both (test write) (write ∷ filter test list) (filter test list) KeysDiffer
    (λ is. (all_filter (λ other. is_eq (key_order write.key other.key) ≡ false) test list differ.0, later)) (λ is. later)

winners_taken : (list : List units.Unit) (writes : List Write) → CanBeTaken writes → CanBeTaken (winners list writes)
unfolding winners
winners_taken list writes can =
    let count : length writes ≤ units_limit = can.count in
    record {
      keys = differ_filter (wins list) writes can.keys;
      values = all_filter (λ write. IsTrue (fits write.value)) (wins list) writes can.values;
      count = omega (arith, length-filter (wins list) writes, count_by-le-length (wins list) writes);
    }

-- the same, for writes as a call saw them
pub won_taken : (list : List units.Unit) (writes seen won : List Write) → CanBeTaken writes → seen ≡ writes → won ≡ winners list seen → CanBeTaken won
won_taken list writes seen won can same is =
    subst CanBeTaken (sym (is ∙ ap (winners list) same)) (winners_taken list writes can)
