-- Taking the writes that win joins each of them with what stood under its key.
use Rattle.std.proofs.Common.{◌≡◌, Bool, true, false, true≢false, cond, List, [], ◌∷◌, filter, Option, None, Some, refl, ap, sym, subst, ◌∙◌}
use Rattle.std.proofs.lemmas.Bool.{cond_both}
use Rattle.std.proofs.lemmas.Cmp.{eq_by_cmp_equiv}
use Rattle.std.specs.List.{AllByRecursion}
use Rattle.std.specs.Ordering.{is_eq, is_gt, is_lt, ordering_reverse}
use Rattle.std.specs.Prelude.{IsSomeAnd, if◌then◌else◌}
use Rattle.std.specs.declared.cmp.Ordering.{Ordering}
use Rattle.std.specs.declared.cmp.Ordering.TheVariants.{Less, Equal, Greater}
use Rattle.dn_stamp.specs.declared.join.Stamped.{Stamped}
use Rattle.dn_stamp.specs.declared.stamp.Stamp.{Stamp}
use Rattle.dn_stamp.specs.Laws.{stamp_total}
use Rattle.dn_stamp.specs.Stamp.{is_newer, stamp_order}
use Rattle.dn_store.specs.declared.unit.Unit as units
use Rattle.dn_store.specs.declared.unit.UnitKey.{UnitKey}
use Rattle.dn_store.specs.declared.unit.UnitValue.{UnitValue}
use Rattle.dn_store.specs.declared.unit.Write.{Write}
use Rattle.dn_store.specs.Table.{AreWritten, IsNotWritten, IsOfWrite, KeysDiffer, unit_at}
use Rattle.dn_store.specs.Value.{key_order}
use Rattle.dn_store.proofs.CallerLemmas.{all_both, all_filter, key_total}
use Rattle.dn_zone.specs.Joins.{Joins, joined_with, stamped_unit, stamped_write}
use Rattle.dn_zone.specs.Merge.{is_newer_than, winners, wins}

-- ---- one write

below_from_above : (order : Ordering) → is_lt (ordering_reverse order) ≡ is_gt order
below_from_above Less = refl
below_from_above Equal = refl
below_from_above Greater = refl

turned : (old came : Stamp) → is_lt (stamp_order old came) ≡ is_newer came old
turned old came = ap is_lt (stamp_total.antisymm old came) ∙ below_from_above (stamp_order came old)

of_write : (now : Option units.Unit) (write : Write) → IsSomeAnd now (IsOfWrite write) → stamped_unit now ≡ Some (stamped_write write)
of_write None write is = absurd is
of_write (Some unit) write is = λ i. Some (record { stamp = is.1 i; value = is.2 i })

join_old : (unit : units.Unit) (now : Option units.Unit) (write : Write) (won : Bool) → is_newer write.stamp unit.stamp ≡ won
    → (won ≡ true → IsSomeAnd now (IsOfWrite write)) → (won ≡ false → now ≡ Some unit)
    → stamped_unit now ≡ Some (joined_with (stamped_unit (Some unit)) (stamped_write write))
join_old unit now write true is taken kept =
    let came : Stamped UnitValue = stamped_write write in
    let old : Stamped UnitValue = record { stamp = unit.stamp; value = unit.value } in
    of_write now write (taken refl) ∙ sym (ap (λ (below : Bool). Some (if below then came else old)) (turned unit.stamp write.stamp ∙ is))
join_old unit now write false is taken kept =
    let came : Stamped UnitValue = stamped_write write in
    let old : Stamped UnitValue = record { stamp = unit.stamp; value = unit.value } in
    ap stamped_unit (kept refl) ∙ sym (ap (λ (below : Bool). Some (if below then came else old)) (turned unit.stamp write.stamp ∙ is))

join_one : (old now : Option units.Unit) (write : Write)
    → (is_newer_than write old ≡ true → IsSomeAnd now (IsOfWrite write)) → (is_newer_than write old ≡ false → now ≡ old)
    → stamped_unit now ≡ Some (joined_with (stamped_unit old) (stamped_write write))
join_one None now write taken kept = of_write now write (taken refl)
join_one (Some unit) now write taken kept =
    join_old unit now write (is_newer write.stamp unit.stamp) refl taken kept

-- ---- all writes of a list

kept_by : (P : Write → Type 0) (test : Write → Bool) (write : Write) (list : List Write) (is : Bool) → test write ≡ is
    → (AllByRecursion P (filter test list) → AllByRecursion (λ one. test one ≡ true → P one) list)
    → AllByRecursion P (cond is (write ∷ filter test list) (filter test list)) → AllByRecursion (λ one. test one ≡ true → P one) (write ∷ list)
kept_by P test write list true is rest all = ((λ yes. all.0), rest all.1)
kept_by P test write list false is rest all = ((λ yes. absurd (true≢false (sym yes ∙ is))), rest all)

-- what holds of the items that pass a test
of_kept : (P : Write → Type 0) (test : Write → Bool) (list : List Write) → AllByRecursion P (filter test list)
    → AllByRecursion (λ one. test one ≡ true → P one) list
of_kept P test [] all = tt
of_kept P test (write ∷ list) all = kept_by P test write list (test write) refl (of_kept P test list) all

-- the keys of items that don't pass aren't among those that do
not_kept : (test : Write → Bool) (list : List Write) → KeysDiffer list → AllByRecursion (λ one. test one ≡ false → IsNotWritten one.key (filter test list)) list
not_kept test [] differ = tt
not_kept test (write ∷ list) differ =
    let apart : AllByRecursion (λ other. is_eq (key_order write.key other.key) ≡ false) list = differ.0 in
    let others = all_filter (λ other. is_eq (key_order write.key other.key) ≡ false) test list apart in
    let later : AllByRecursion (λ one. test one ≡ false → IsNotWritten one.key (filter test list)) list = not_kept test list differ.1 in (
      (λ no. cond_both (test write) (write ∷ filter test list) (filter test list) (IsNotWritten write.key)
          (λ yes. absurd (true≢false (sym yes ∙ no))) (λ no-again. others)),
      all_both (λ other. is_eq (key_order write.key other.key) ≡ false) (λ one. test one ≡ false → IsNotWritten one.key (filter test list))
          (λ one. test one ≡ false → IsNotWritten one.key (filter test (write ∷ list))) list
          (λ one differs is no. cond_both (test write) (write ∷ filter test list) (filter test list) (IsNotWritten one.key)
          (λ yes. ((eq_by_cmp_equiv key_total).symm one.key write.key ∙ differs, is no)) (λ no-again. is no))
          apart later,
    )

pub joins : (before after : List units.Unit) (writes won : List Write) → KeysDiffer writes → won ≡ winners before writes → AreWritten won after
    → ((key : UnitKey) → IsNotWritten key won → unit_at key after ≡ unit_at key before) → Joins writes before after
unfolding winners wins
joins before after writes won differ is written others =
    let test = wins before in
    let written-kept : AreWritten (filter test writes) after = subst (λ list. AreWritten list after) is written in
    let others-kept : (key : UnitKey) → IsNotWritten key (filter test writes) → unit_at key after ≡ unit_at key before =
    subst (λ list. (key : UnitKey) → IsNotWritten key list → unit_at key after ≡ unit_at key before) is others in
    record {
      each = all_both (λ write. test write ≡ true → IsSomeAnd (unit_at write.key after) (IsOfWrite write))
          (λ write. test write ≡ false → IsNotWritten write.key (filter test writes))
          (λ write. stamped_unit (unit_at write.key after) ≡ Some (joined_with (stamped_unit (unit_at write.key before)) (stamped_write write)))
          writes
          (λ write taken kept. join_one (unit_at write.key before) (unit_at write.key after) write taken (λ no. others-kept write.key (kept no)))
          (of_kept (λ write. IsSomeAnd (unit_at write.key after) (IsOfWrite write)) test writes written-kept)
          (not_kept test writes differ);
      others = λ key absent. others-kept key (all_filter (λ write. is_eq (key_order key write.key) ≡ false) test writes absent);
    }

-- the same, for writes as a call saw them
pub joins_seen : (before after : List units.Unit) (writes seen won : List Write) → KeysDiffer writes → seen ≡ writes → won ≡ winners before seen
    → AreWritten won after → ((key : UnitKey) → IsNotWritten key won → unit_at key after ≡ unit_at key before) → Joins writes before after
joins_seen before after writes seen won differ same is written others =
    joins before after writes won differ (is ∙ ap (winners before) same) written others
