-- The rows of a name are those of the node that is found under it.
use Rattle.std.proofs.Common.{◌≡◌, ℕ, Bool, true, false, List, [], ◌∷◌, ◌++◌, Option, None, Some, refl, ap, sym, ◌∙◌, cond, length, map, append-nil, arith, suc, ◌||◌, lt-ltb}
use Rattle.std.proofs.lemmas.Bool.{false≢true}
use Rattle.std.proofs.lemmas.List.Elements.{filter-append}
use Rattle.std.specs.List.{AllByRecursion, list_any}
use Rattle.std.specs.List.Sorted.{IsStrictlySortedBy}
use Rattle.std.specs.Ordering.{is_eq}
use Rattle.std.specs.Prelude.{filter, flat_map, nat_eq, nat_lt, slice_get}
use Rattle.dn_name.specs.Name.{Labels, is_same}
use Rattle.dn_rdata.specs.declared.record.Record.{Record}
use Rattle.dn_store.specs.declared.unit.Unit as units
use Rattle.dn_store.specs.declared.unit.UnitKey.{UnitKey}
use Rattle.dn_store.specs.declared.unit.UnitKey.TheVariants.{Props, Node}
use Rattle.dn_store.specs.Contents.{rows_at, rows_in, rows_of_unit}
use Rattle.dn_store.specs.Table.{KeysGrow, unit_at}
use Rattle.dn_store.specs.Value.{key_order}
use Rattle.dn_store.proofs.CallerLemmas.{IsAfter, all_then, apart_first, key_at}
use Rattle.dn_store.specs.declared.owned.Owned.{Owned}
use Rattle.dn_store.specs.Rows.{first_row, has_some, of_name, of_type, owned_by, rows_of, rows_of_key, rows_of_node}
use Rattle.dn_answer.proofs.NamesBelow.{same_order}

pub first_is : (rows : List Owned) → first_row rows ≡ slice_get rows 0
first_is [] = refl
first_is (one ∷ rows) = refl

-- the rows of a unit that was found
abbrev pub found_rows : Option units.Unit → List Owned
found_rows None = []
found_rows (Some unit) = rows_of_node unit

-- ---- a node's rows, by their name

all_named : (name node : Labels) (rows : List Record) → is_same node name ≡ true → filter (λ one. is_same one.name name) (map (owned_by node) rows) ≡ map (owned_by node) rows
all_named name node [] is = refl
all_named name node (row ∷ rows) is = rw is (ap (λ (later : List Owned). owned_by node row ∷ later) (all_named name node rows is))

none_named : (name node : Labels) (rows : List Record) → is_same node name ≡ false → filter (λ one. is_same one.name name) (map (owned_by node) rows) ≡ []
none_named name node [] is = refl
none_named name node (row ∷ rows) is = rw is (none_named name node rows is)

key_named : (name : Labels) (key : UnitKey) (rows : List Record) → is_eq (key_order key (Node name)) ≡ true → of_name name (rows_of_key key rows) ≡ rows_of_key key rows
unfolding of_name
key_named name Props rows is = absurd (false≢true is)
key_named name (Node node) rows is = all_named name node rows (sym (same_order node name) ∙ is)

key_apart : (name : Labels) (key : UnitKey) (rows : List Record) → is_eq (key_order key (Node name)) ≡ false → of_name name (rows_of_key key rows) ≡ []
unfolding of_name
key_apart name Props rows is = refl
key_apart name (Node node) rows is = none_named name node rows (sym (same_order node name) ∙ is)

-- ---- the rows of a name in a table

name_first : (name : Labels) (unit : units.Unit) (list : List units.Unit) → of_name name (rows_of (unit ∷ list)) ≡ of_name name (rows_of_node unit) ++ of_name name (rows_of list)
unfolding of_name rows_of
name_first name unit list = filter-append (λ one. is_same one.name name) (rows_of_node unit) (flat_map rows_of_node list)

none_of : (name : Labels) (list : List units.Unit) → AllByRecursion (λ unit. is_eq (key_order unit.key (Node name)) ≡ false) list → of_name name (rows_of list) ≡ []
unfolding of_name rows_of
none_of name [] apart = refl
none_of name (unit ∷ list) apart =
    name_first name unit list ∙ ap (λ (front : List Owned). front ++ of_name name (rows_of list)) (key_apart name unit.key (rows_in unit.value) apart.0) ∙ none_of name list apart.1

not_false : (b : Bool) → (b ≡ true → false ≡ true) → b ≡ false
not_false true never = sym (never refl)
not_false false never = refl

named_step : (name : Labels) (unit : units.Unit) (list : List units.Unit) (b : Bool) → is_eq (key_order unit.key (Node name)) ≡ b
    → AllByRecursion (IsAfter unit.key) list → of_name name (rows_of list) ≡ found_rows (unit_at (Node name) list)
    → of_name name (rows_of (unit ∷ list)) ≡ found_rows (cond b (Some unit) (unit_at (Node name) list))
named_step name unit list true is after later =
    let apart : AllByRecursion (λ other. is_eq (key_order other.key (Node name)) ≡ false) list =
    all_then (IsAfter unit.key) (λ other. is_eq (key_order other.key (Node name)) ≡ false) list
    (λ other less. not_false (is_eq (key_order other.key (Node name))) (λ same. sym (apart_first (Node name) unit.key other.key less same) ∙ is)) after in
    name_first name unit list ∙ ap (λ (back : List Owned). of_name name (rows_of_node unit) ++ back) (none_of name list apart)
    ∙ append-nil (of_name name (rows_of_node unit)) ∙ key_named name unit.key (rows_in unit.value) is
named_step name unit list false is after later =
    name_first name unit list ∙ ap (λ (front : List Owned). front ++ of_name name (rows_of list)) (key_apart name unit.key (rows_in unit.value) is) ∙ later

pub named_found : (name : Labels) (list : List units.Unit) → KeysGrow list → of_name name (rows_of list) ≡ found_rows (unit_at (Node name) list)
unfolding IsStrictlySortedBy of_name rows_of
named_found name [] grow = refl
named_found name (unit ∷ list) grow =
    named_step name unit list (is_eq (key_order unit.key (Node name))) refl grow.0 (named_found name list grow.1)

-- the same, of the rows as a call sees them
pub name_is : (name : Labels) (list : List units.Unit) (rows : List Owned) (found : Option units.Unit) → KeysGrow list → rows_of list ≡ rows
    → found ≡ unit_at (Node name) list → found_rows found ≡ of_name name rows
name_is name list rows found grow are is = ap found_rows is ∙ sym (named_found name list grow) ∙ ap (of_name name) are

-- ---- the same of the records of the node

pub some_more : {X : Type 0} (one : X) (rest : List X) → nat_lt 0 (length (one ∷ rest)) ≡ true
some_more one rest = lt-ltb 0 (suc (length rest)) (omega arith)

type_step : (b any : Bool) (one : Owned) (rest : List Owned) → has_some rest ≡ any → has_some (cond b (one ∷ rest) rest) ≡ (b || any)
type_step true any one rest is = some_more one rest
type_step false any one rest is = is

type_owned : (rtype : ℕ) (node : Labels) (rows : List Record) → has_some (of_type rtype (map (owned_by node) rows)) ≡ list_any (λ row. nat_eq row.rtype rtype) rows
unfolding of_type
type_owned rtype node [] = refl
type_owned rtype node (row ∷ rows) =
    type_step (nat_eq row.rtype rtype) (list_any (λ other. nat_eq other.rtype rtype) rows) (owned_by node row) (of_type rtype (map (owned_by node) rows)) (type_owned rtype node rows)

type_key : (rtype : ℕ) (name : Labels) (key : UnitKey) (rows : List Record) → is_eq (key_order key (Node name)) ≡ true
    → has_some (of_type rtype (rows_of_key key rows)) ≡ list_any (λ row. nat_eq row.rtype rtype) rows
type_key rtype name Props rows is = absurd (false≢true is)
type_key rtype name (Node node) rows is = type_owned rtype node rows

type_at : (rtype : ℕ) (name : Labels) (list : List units.Unit) (found : Option units.Unit) → unit_at (Node name) list ≡ found
    → has_some (of_type rtype (found_rows found)) ≡ list_any (λ row. nat_eq row.rtype rtype) (rows_of_unit found)
unfolding of_type
type_at rtype name list None is = refl
type_at rtype name list (Some unit) is = type_key rtype name unit.key (rows_in unit.value) (key_at (Node name) list unit is)

-- a name has rows of a type where one of the records at its key is of it
pub type_found : (rtype : ℕ) (name : Labels) (list : List units.Unit) → KeysGrow list
    → has_some (of_type rtype (of_name name (rows_of list))) ≡ list_any (λ row. nat_eq row.rtype rtype) (rows_at (Node name) list)
unfolding rows_at
type_found rtype name list grow =
    ap (λ (rows : List Owned). has_some (of_type rtype rows)) (named_found name list grow) ∙ type_at rtype name list (unit_at (Node name) list) refl
