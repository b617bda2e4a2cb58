-- A new zone is valid, and so is one of which nothing is here yet.
use Rattle.std.proofs.Common.{◌≡◌, ℕ, ◌≤◌, Bool, true, ◌&&◌, [], ◌∷◌, ◌++◌, length, nat_lt, nat_le, refl, arith}
use Rattle.std.proofs.lemmas.Bool.{le-leb}
use Rattle.std.proofs.lemmas.List.{length-append}
use Rattle.std.proofs.lemmas.List.Sums.{sum_by-cons}
use Rattle.std.specs.Prelude.{IsTrue}
use Rattle.std.specs.List.{AllByRecursion, list_all}
use Rattle.std.specs.List.Sorted.{IsStrictlySortedBy}
use lib.Pointwise.{pointwise_decides, bytes_decides}
use Rattle.dn_io.specs.Moments.{seconds_of}
use Rattle.dn_name.specs.Name.{IsName, Labels, is_same, is_under, lowered, wire_len, wire_of}
use Rattle.dn_stamp.specs.declared.stamp.ReplicaId.{ReplicaId}
use Rattle.dn_stamp.specs.Stamp.{IsVersion, first_stamp}
use Rattle.dn_rdata.specs.declared.record.Record.{Record}
use Rattle.dn_rdata.specs.Record.{made, names_in}
use Rattle.dn_rdata.specs.Types.{NS, SOA}
use Rattle.dn_rdata.proofs.CallerLemmas.{server_data, start_data}
use Rattle.dn_store.specs.declared.unit.UnitKey.TheVariants as keys
use Rattle.dn_store.specs.declared.unit.UnitValue.TheVariants as values
use Rattle.dn_store.specs.Table.{IsTable}
use Rattle.dn_store.specs.Valid.{HasData, IsValidWrite}
use Rattle.dn_store.specs.Value.{fits, is_lower, row_ok, row_size, rows_grow, soas, unit_ok, value_limit, value_size}
use Rattle.dn_store.proofs.CallerLemmas.{lower_lowered, name_lowered, table_taken, valid_taken}
use Rattle.dn_zone.specs.Creation.{created, first_numbers, first_properties, first_rows, first_writes, joined_zone}
use Rattle.dn_zone.specs.Settings.{property}
use Rattle.dn_zone.specs.Valid.{IsValidZone}
use Rattle.dn_zone.proofs.CreationLemmas.{first_fit}

-- ---- the records at the apex

-- a name is itself
same_self : (name : Labels) → is_same name name ≡ true
same_self name = (pointwise_decides bytes_decides (lowered name) (lowered name)).1 refl

-- and under itself
under_self : (name : Labels) → is_under name name ≡ true
under_self [] = same_self []
under_self (label ∷ name) = rw (same_self (label ∷ name)) refl

all_six : (a b c d e f : Bool) → a ≡ true → b ≡ true → c ≡ true → d ≡ true → e ≡ true → f ≡ true → (a && b && c && d && e && f) ≡ true
all_six a b c d e f in_a in_b in_c in_d in_e in_f = rw (in_a, in_b, in_c, in_d, in_e, in_f) refl

rows_good : (host mailbox : Labels) (at_apex : Bool) → at_apex ≡ true → list_all (row_ok at_apex) (first_rows host mailbox) ≡ true
unfolding first_rows
rows_good host mailbox at_apex is = rw is refl

first_grow : (host mailbox : Labels) → rows_grow (first_rows host mailbox) ≡ true
unfolding first_rows
first_grow host mailbox = refl

first_some : (host mailbox : Labels) → nat_lt 0 (length (first_rows host mailbox)) ≡ true
unfolding first_rows
first_some host mailbox = refl

first_start : (host mailbox : Labels) → nat_le (soas (first_rows host mailbox)) 1 ≡ true
unfolding first_rows
first_start host mailbox = refl

node_allowed : (host apex mailbox : Labels) → unit_ok (lowered apex) (keys.Node (lowered apex)) (values.Live (first_rows host mailbox)) ≡ true
node_allowed host apex mailbox =
    let name = lowered apex in
    let rows = first_rows host mailbox in
    all_six (is_under name name) (is_lower name) (nat_lt 0 (length rows)) (rows_grow rows) (list_all (row_ok (is_same name name)) rows) (nat_le (soas rows) 1)
    (under_self name) (lower_lowered apex) (first_some host mailbox) (first_grow host mailbox) (rows_good host mailbox (is_same name name) (same_self name)) (first_start host mailbox)

wire_length : (name : Labels) → length (wire_of name) ≡ wire_len name
wire_length [] = refl
wire_length (label ∷ name) = omega (arith, length-append label (wire_of name), wire_length name)

-- two records with one name and with two are short
two_short : (one other : Record) → length one.rdata ≤ 255 → names_in one.rtype ≡ 1 → length other.rdata ≤ 530 → names_in other.rtype ≡ 2
    → value_size (values.Live (one ∷ other ∷ [])) ≤ value_limit
two_short one other short named long boxed =
    let second = sum_by-cons row_size other [] in
    let first = sum_by-cons row_size one (other ∷ []) in
    omega (arith, first, second, short, named, long, boxed)

start_length : (host mailbox : Labels) → IsName host → IsName mailbox → length (wire_of host ++ wire_of mailbox ++ first_numbers) ≤ 530
unfolding first_numbers
start_length host mailbox named boxed =
    let both = length-append (wire_of host) (wire_of mailbox) in
    let whole = length-append (wire_of host ++ wire_of mailbox) first_numbers in
    omega (arith, wire_length host, wire_length mailbox, both, whole, named.1, boxed.1)

rows_short : (host mailbox : Labels) → IsName host → IsName mailbox → value_size (values.Live (first_rows host mailbox)) ≤ value_limit
unfolding first_rows
rows_short host mailbox named boxed =
    let short : length (wire_of host) ≤ 255 = omega (arith, wire_length host, named.1) in
    two_short (made NS 3600 0 (wire_of host)) (made SOA 3600 0 (wire_of host ++ wire_of mailbox ++ first_numbers)) short refl (start_length host mailbox named boxed) refl

node_fits : (host mailbox : Labels) → IsName host → IsName mailbox → IsTrue (fits (values.Live (first_rows host mailbox)))
node_fits host mailbox named boxed = le-leb (value_size (values.Live (first_rows host mailbox))) value_limit (rows_short host mailbox named boxed)

-- their data are a name, and two names and twenty bytes
rows_have_data : (host mailbox : Labels) → IsName host → IsName mailbox → HasData (values.Live (first_rows host mailbox))
unfolding first_rows first_numbers
rows_have_data host mailbox named boxed = (server_data host named, (start_data host mailbox first_numbers named boxed refl, tt))

-- ---- the properties

first_in_order : (apex : Labels) → unit_ok apex keys.Props (values.Props first_properties) ≡ true
unfolding first_properties property
first_in_order apex = refl

-- ---- zones

first_version : (id : ReplicaId) (seconds : ℕ) → IsVersion (first_stamp id seconds).version
first_version id seconds = (omega arith, omega arith)

writes_valid : (id : ReplicaId) (host apex mailbox : Labels) (ticks : ℕ) → IsName host → IsName apex → IsName mailbox
    → AllByRecursion (IsValidWrite (lowered apex)) (first_writes id host apex mailbox ticks)
unfolding first_writes
writes_valid id host apex mailbox ticks named zone_named boxed = (
  record { named = tt; allowed = first_in_order (lowered apex); records = tt; fitting = first_fit; version = first_version id (seconds_of ticks) },
  (
    record {
      named = name_lowered apex zone_named;
      allowed = node_allowed host apex mailbox;
      records = rows_have_data host mailbox named boxed;
      fitting = node_fits host mailbox named boxed;
      version = first_version id (seconds_of ticks);
    },
    tt,
  ),
)

-- the table of which nothing is there
empty_table : IsTable [] 0
unfolding IsStrictlySortedBy
empty_table = record { ordered = tt; numbers = tt; differ = tt; fitting = tt; most = omega arith }

pub created_valid : (id : ReplicaId) (host apex mailbox : Labels) (ticks : ℕ) → IsName host → IsName apex → IsName mailbox → IsValidZone (created id host apex mailbox ticks)
unfolding created first_writes
created_valid id host apex mailbox ticks named zone_named boxed =
    let valid = writes_valid id host apex mailbox ticks named zone_named boxed in
    record {
      host = named;
      apex = name_lowered apex zone_named;
      lower = lower_lowered apex;
      table = table_taken [] 0 (first_writes id host apex mailbox ticks) (omega arith) (first_fit, (node_fits host mailbox named boxed, tt)) empty_table;
      units = valid_taken (lowered apex) [] 0 (first_writes id host apex mailbox ticks) tt valid;
      cursors = tt;
    }

pub joined_valid : (id : ReplicaId) (host apex : Labels) → IsName host → IsName apex → IsValidZone (joined_zone id host apex)
unfolding joined_zone
joined_valid id host apex named zone_named =
    record { host = named; apex = name_lowered apex zone_named; lower = lower_lowered apex; table = empty_table; units = tt; cursors = tt }
