-- Values that may stand in the zone, with records of valid data, are written as valid writes, and what was written leaves a
-- valid table.
use Rattle.std.proofs.Common.{◌≡◌, ℕ, ◌+◌, ◌<◌, ◌≤◌, Bool, true, false, cond, List, [], ◌∷◌, Option, None, Some, length, nat_lt, refl, ap, arith, subst, unwrap_or}
use Rattle.std.proofs.lemmas.Bool.{and_parts, false≢true, ltb-false, ltb-true}
use Rattle.std.specs.List.{AllByRecursion, list_all}
use Rattle.std.specs.Option.{is_some}
use Rattle.std.specs.Prelude.{IsTrue}
use Rattle.dn_io.specs.Moments.{seconds_of}
use Rattle.dn_io.specs.Options.{◌>>=◌}
use Rattle.dn_name.specs.Name.{Labels}
use Rattle.dn_stamp.specs.declared.stamp.ReplicaId.{ReplicaId}
use Rattle.dn_stamp.specs.declared.stamp.Stamp.{Stamp}
use Rattle.dn_stamp.specs.Stamp.{IsVersion, last_version}
use Rattle.dn_store.specs.declared.unit.Unit as units
use Rattle.dn_store.specs.declared.unit.UnitKey.{UnitKey}
use Rattle.dn_store.specs.declared.unit.Write.{Write}
use Rattle.dn_store.specs.Table.{IsTable, TableState, change_limit, unit_at}
use Rattle.dn_store.specs.Valid.{HasData, IsNamedKey, IsValidTable, IsValidUnit, IsValidWrite}
use Rattle.dn_store.specs.Value.{fits, unit_ok}
use Rattle.dn_store.proofs.CallerLemmas.{all_then, table_taken, valid_taken}
use Rattle.dn_update.specs.Writes.{Outcome, Wanted, stamp_behind, stamp_for, stamped, when_stamped, with_writes, write_under, written}

-- the value may stand under its key, the data of its records are valid for their types, and a node's key is a name
abbrev pub IsAllowed : Labels → Wanted → Type 0
IsAllowed apex one = (unit_ok apex one.key one.value ≡ true) × HasData one.value × IsNamedKey one.key

-- ---- stamps

some_is : {A : Type 0} (one other : A) → Some one ≡ Some other → one ≡ other
some_is one other is = ap (λ found. unwrap_or found one) is

-- where a read of two steps gives an answer, each step gave one
both_read : {A B : Type 0} (value : Option A) (next : A → Option B) (answer : B) → (value >>= next) ≡ Some answer → (one : A) × (value ≡ Some one) × (next one ≡ Some answer)
both_read None next answer is = absurd (false≢true (ap is_some is))
both_read (Some one) next answer is = (one, refl, is)

next_version : (more : Bool) (version seconds : ℕ) (id : ReplicaId) (stamp : Stamp) → nat_lt version last_version ≡ more
    → cond more (Some (record { version = version + 1; seconds = seconds; id = id })) None ≡ Some stamp → IsVersion stamp.version
next_version false version seconds id stamp more is = absurd (false≢true (ap is_some is))
next_version true version seconds id stamp more is =
    let next : Stamp = record { version = version + 1; seconds = seconds; id = id } in
    let below : version < last_version = ltb-true version last_version more in
    subst (λ (one : Stamp). IsVersion one.version) (some_is next stamp is) (omega arith, omega arith)

behind_version : (found : Option units.Unit) (id : ReplicaId) (seconds : ℕ) (stamp : Stamp) → stamp_behind found id seconds ≡ Some stamp → IsVersion stamp.version
behind_version None id seconds stamp is =
    subst (λ (one : Stamp). IsVersion one.version) (some_is (record { version = 1; seconds = seconds; id = id }) stamp is) (omega arith, omega arith)
behind_version (Some unit) id seconds stamp is = next_version (nat_lt unit.stamp.version last_version) unit.stamp.version seconds id stamp refl is

stamp_version : (key : UnitKey) (list : List units.Unit) (id : ReplicaId) (seconds : ℕ) (stamp : Stamp) → stamp_for key list id seconds ≡ Some stamp → IsVersion stamp.version
unfolding stamp_for
stamp_version key list id seconds stamp is = behind_version (unit_at key list) id seconds stamp is

pub stamped_valid : (apex : Labels) (list : List units.Unit) (id : ReplicaId) (seconds : ℕ) (wanted : List Wanted) (writes : List Write) → list_all (λ one. fits one.value) wanted ≡ true
    → AllByRecursion (IsAllowed apex) wanted → AllByRecursion (IsValidUnit apex) list → stamped list id seconds wanted ≡ Some writes
    → AllByRecursion (IsValidWrite apex) writes
unfolding stamped
stamped_valid apex list id seconds [] writes fit allowed valid is = subst (AllByRecursion (IsValidWrite apex)) (some_is [] writes is) tt
stamped_valid apex list id seconds (one ∷ rest) writes fit allowed valid is =
    let with_rest : Stamp → Option (List Write) = λ stamp. stamped list id seconds rest >>= λ others. Some (write_under one stamp ∷ others) in
    let first = both_read (stamp_for one.key list id seconds) with_rest writes is in
    let later = both_read (stamped list id seconds rest) (λ others. Some (write_under one first.0 ∷ others)) writes first.2 in
    let fitting = and_parts (fits one.value) (list_all (λ wanted. fits wanted.value) rest) fit in
    subst (AllByRecursion (IsValidWrite apex)) (some_is (write_under one first.0 ∷ later.0) writes later.2) (
      record {
        named = allowed.0.2;
        allowed = allowed.0.0;
        records = allowed.0.1;
        fitting = fitting.0;
        version = stamp_version one.key list id seconds first.0 first.1;
      },
      stamped_valid apex list id seconds rest later.0 fitting.1 allowed.1 valid later.1,
    )

-- ---- the table after values were written

taken_valid : (apex : Labels) (table : TableState) (writes : List Write) → table.1 + length writes ≤ change_limit → AllByRecursion (IsValidWrite apex) writes → IsValidTable apex table
    → IsValidTable apex (with_writes writes table)
taken_valid apex table writes within brought valid =
    let fit : AllByRecursion (λ write. IsTrue (fits write.value)) writes = all_then (IsValidWrite apex) (λ write. IsTrue (fits write.value)) writes (λ write is. is.fitting) brought in
    (table_taken table.0 table.1 writes within fit valid.0, valid_taken apex table.0 table.1 writes valid.1 brought)

unless_full : (full : Bool) (apex : Labels) (table : TableState) (writes : List Write) (one other : Outcome) → nat_lt change_limit (table.1 + length writes) ≡ full
    → AllByRecursion (IsValidWrite apex) writes → IsValidTable apex table
    → IsValidTable apex (cond {A = TableState × Outcome} full (table, one) (with_writes writes table, other)).0
unless_full true apex table writes one other is brought valid = valid
unless_full false apex table writes one other is brought valid = taken_valid apex table writes (ltb-false change_limit (table.1 + length writes) is) brought valid

when_valid : (apex : Labels) (table : TableState) (made : Option (List Write)) → ((writes : List Write) → made ≡ Some writes → AllByRecursion (IsValidWrite apex) writes)
    → IsValidTable apex table → IsValidTable apex (when_stamped table made).0
when_valid apex table None brings valid = valid
when_valid apex table (Some []) brings valid = valid
when_valid apex table (Some (first ∷ rest)) brings valid =
    unless_full (nat_lt change_limit (table.1 + length (first ∷ rest))) apex table (first ∷ rest) _ _ refl (brings (first ∷ rest) refl) valid

fitting_valid : (fit : Bool) (apex : Labels) (table : TableState) (made : Option (List Write)) (other : Outcome)
    → (fit ≡ true → (writes : List Write) → made ≡ Some writes → AllByRecursion (IsValidWrite apex) writes) → IsValidTable apex table
    → IsValidTable apex (cond {A = TableState × Outcome} fit (when_stamped table made) (table, other)).0
fitting_valid true apex table made other brings valid = when_valid apex table made (brings refl) valid
fitting_valid false apex table made other brings valid = valid

pub written_keeps : (apex : Labels) (wanted : List Wanted) (id : ReplicaId) (ticks : ℕ) (table : TableState) → AllByRecursion (IsAllowed apex) wanted
    → IsTable table.0 table.1 → AllByRecursion (IsValidUnit apex) table.0
    → let after = (written wanted id ticks table).0 in IsTable after.0 after.1 × AllByRecursion (IsValidUnit apex) after.0
unfolding written
written_keeps apex wanted id ticks table allowed is valid =
    fitting_valid (list_all (λ one. fits one.value) wanted) apex table (stamped table.0 id (seconds_of ticks) wanted) _
    (λ fit writes. stamped_valid apex table.0 id (seconds_of ticks) wanted writes fit allowed valid) (is, valid)
