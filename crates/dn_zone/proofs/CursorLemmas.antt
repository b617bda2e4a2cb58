-- Cursors: that of the supplier that is named, and those of all others.
use Rattle.std.proofs.Common.{◌≡◌, ℕ, Bool, true, false, cond, List, [], ◌∷◌, Some, nat_eq, refl, sym, ap, ◌∙◌}
use Rattle.std.proofs.lemmas.Bool.{cond_both, eq-eqb, eqb-true, false≢true}
use Rattle.std.specs.Prelude.{unwrap_or}
use Rattle.std.specs.Map.{lookup}
use lib.Pointwise.{pointwise, bytes_decides}
use Rattle.indexmap.specs.IndexMap.{insert_entry}
use Rattle.dn_stamp.specs.declared.stamp.ReplicaId.{ReplicaId}
use Rattle.dn_stamp.specs.Stamp.{is_id}
use Rattle.dn_zone.specs.Merge.{cursor_of, cursor_set, with_cursor}

-- the entry that a map finds is the cursor
pub found_in : (cursors : List (ReplicaId × ℕ)) (supplier : ReplicaId) → unwrap_or (lookup (is_id supplier) cursors) 0 ≡ cursor_of supplier cursors
unfolding cursor_of
found_in [] supplier = refl
found_in (entry ∷ cursors) supplier =
    cond_both (is_id supplier entry.0) (Some entry.1) (lookup (is_id supplier) cursors)
    (λ found. (rest : ℕ) → unwrap_or (lookup (is_id supplier) cursors) 0 ≡ rest → unwrap_or found 0 ≡ cond (is_id supplier entry.0) entry.1 rest)
    (λ is rest same. sym (ap (λ (test : Bool). cond test entry.1 rest) is)) (λ is rest same. same ∙ sym (ap (λ (test : Bool). cond test entry.1 rest) is))
    (cursor_of supplier cursors) (found_in cursors supplier)

-- what a map becomes where an entry is put
pub set_in : (cursors : List (ReplicaId × ℕ)) (supplier : ReplicaId) (seen : ℕ) → insert_entry is_id cursors supplier seen ≡ cursor_set supplier seen cursors
set_in [] supplier seen = refl
set_in (entry ∷ cursors) supplier seen =
    ap (λ (rest : List (ReplicaId × ℕ)). cond (is_id supplier entry.0) ((entry.0, seen) ∷ cursors) (entry ∷ rest)) (set_in cursors supplier seen)

-- the same for a cursor that isn't at the number
pub put_in : (cursors entries : List (ReplicaId × ℕ)) (supplier : ReplicaId) (seen found : ℕ) → entries ≡ cursors → found ≡ cursor_of supplier cursors → nat_eq found seen ≡ false
    → insert_entry is_id entries supplier seen ≡ with_cursor supplier seen cursors
unfolding with_cursor
put_in cursors entries supplier seen found same is other =
    ap (λ (list : List (ReplicaId × ℕ)). insert_entry is_id list supplier seen) same
    ∙ set_in cursors supplier seen
    ∙ sym (ap (λ (test : Bool). cond test cursors (cursor_set supplier seen cursors)) (ap (λ (number : ℕ). nat_eq number seen) (sym is) ∙ other))

-- ---- what moving one cursor does to each

same_test : (left right other : ReplicaId) → is_id left right ≡ true → is_id left other ≡ is_id right other
same_test left right other is = ap (λ (bytes : List ℕ). pointwise nat_eq bytes other.0) ((bytes_decides left.0 right.0).0 is)

same_end : (left right other : ReplicaId) → is_id left right ≡ true → is_id other left ≡ is_id other right
same_end left right other is = ap (λ (bytes : List ℕ). pointwise nat_eq other.0 bytes) ((bytes_decides left.0 right.0).0 is)

same_cursor : (cursors : List (ReplicaId × ℕ)) (left right : ReplicaId) → is_id left right ≡ true → cursor_of left cursors ≡ cursor_of right cursors
unfolding cursor_of
same_cursor [] left right is = refl
same_cursor (entry ∷ cursors) left right is =
    ap (λ (test : Bool). cond test entry.1 (cursor_of left cursors)) (same_test left right entry.0 is)
    ∙ ap (cond (is_id right entry.0) entry.1) (same_cursor cursors left right is)

-- at an entry that isn't the supplier's
apart : (other supplier : ReplicaId) (entry : ReplicaId × ℕ) (seen behind : ℕ) (mine here : Bool) → is_id other supplier ≡ mine → is_id other entry.0 ≡ here → is_id supplier entry.0 ≡ false
    → cond here entry.1 (cond mine seen behind) ≡ cond mine seen (cond here entry.1 behind)
apart other supplier entry seen behind true true mine here is = absurd (false≢true (sym is ∙ sym (same_test other supplier entry.0 mine) ∙ here))
apart other supplier entry seen behind true false mine here is = refl
apart other supplier entry seen behind false here mine here_is is = refl

first_set : (test : Bool) (value one behind : ℕ) → cond test value behind ≡ cond test value (cond test one behind)
first_set true value one behind = refl
first_set false value one behind = refl

set_seen : (cursors : List (ReplicaId × ℕ)) (supplier other : ReplicaId) (seen : ℕ) → cursor_of other (cursor_set supplier seen cursors) ≡ cond (is_id other supplier) seen (cursor_of other cursors)
unfolding cursor_of
set_seen [] supplier other seen = refl
set_seen (entry ∷ cursors) supplier other seen =
    cond_both (is_id supplier entry.0) ((entry.0, seen) ∷ cursors) (entry ∷ cursor_set supplier seen cursors)
    (λ (list : List (ReplicaId × ℕ)). cursor_of other list ≡ cond (is_id other supplier) seen (cursor_of other (entry ∷ cursors)))
    (λ is. first_set (is_id other entry.0) seen entry.1 (cursor_of other cursors)
    ∙ ap (λ (test : Bool). cond test seen (cond (is_id other entry.0) entry.1 (cursor_of other cursors))) (sym (same_end supplier entry.0 other is)))
    (λ is. ap (cond (is_id other entry.0) entry.1) (set_seen cursors supplier other seen)
    ∙ apart other supplier entry seen (cursor_of other cursors) (is_id other supplier) (is_id other entry.0) refl refl is)

-- where the cursor stands at the number already
stays : (cursors : List (ReplicaId × ℕ)) (supplier other : ReplicaId) (seen : ℕ) (mine : Bool) → is_id other supplier ≡ mine → cursor_of supplier cursors ≡ seen
    → cursor_of other cursors ≡ cond mine seen (cursor_of other cursors)
stays cursors supplier other seen true mine at = same_cursor cursors other supplier mine ∙ at
stays cursors supplier other seen false mine at = refl

pub cursor_moved : (cursors : List (ReplicaId × ℕ)) (supplier other : ReplicaId) (seen : ℕ) → cursor_of other (with_cursor supplier seen cursors) ≡ cond (is_id other supplier) seen (cursor_of other cursors)
unfolding with_cursor
cursor_moved cursors supplier other seen =
    cond_both (nat_eq (cursor_of supplier cursors) seen) cursors (cursor_set supplier seen cursors)
    (λ (list : List (ReplicaId × ℕ)). cursor_of other list ≡ cond (is_id other supplier) seen (cursor_of other cursors))
    (λ is. stays cursors supplier other seen (is_id other supplier) refl (eqb-true (cursor_of supplier cursors) seen is))
    (λ is. set_seen cursors supplier other seen)

-- a cursor that stays where it is changes nothing
pub cursor_kept : (cursors : List (ReplicaId × ℕ)) (supplier : ReplicaId) → with_cursor supplier (cursor_of supplier cursors) cursors ≡ cursors
unfolding with_cursor
cursor_kept cursors supplier =
    ap (λ (test : Bool). cond test cursors (cursor_set supplier (cursor_of supplier cursors) cursors)) (eq-eqb (cursor_of supplier cursors) (cursor_of supplier cursors) refl)
