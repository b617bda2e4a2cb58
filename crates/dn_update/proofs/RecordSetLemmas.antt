-- When the records of a node stay the same set, and when they do not.
use Rattle.std.proofs.Common.{◌≡◌, ℕ, Bool, true, false, cond, not, ◌&&◌, ◌||◌, nat_eq, List, [], ◌∷◌, refl, sym, ap, subst, ◌∙◌}
use Rattle.std.proofs.lemmas.Bool.{and_from, and_left, and_parts, and_right, eqb-true}
use Rattle.std.proofs.lemmas.Cmp.{nat_eq_equiv, nat_list_eq_equiv}
use Rattle.std.specs.Cmp.Lexicographic.{same_text}
use Rattle.std.specs.List.{list_all, list_any}
use Rattle.std.specs.Ordering.{is_eq, match_ordering}
use Rattle.std.specs.declared.cmp.Ordering.{Ordering}
use Rattle.std.specs.declared.cmp.Ordering.TheVariants.{Less, Equal, Greater}
use lib.Pointwise.{pointwise}
use Rattle.dn_rdata.specs.declared.record.Record.{Record}
use Rattle.dn_rdata.specs.Record.{data_order}
use Rattle.dn_rdata.proofs.CallerLemmas.{self_equal}
use Rattle.dn_update.specs.Node.{are_among, bars, has_data_of, is_alias, is_record, is_same_set, is_there_as, placed_row, without_aliases}

-- ---- whole records

same_number : (left right : ℕ) → nat_eq left right ≡ true → left ≡ right
same_number left right e = eqb-true left right e

-- the first fields of one record, a value, and the last fields of the other
abbrev until_rtype : Record → Record → ℕ → Record
until_rtype a b it = record { rtype = it; rank = a.rank; flags = a.flags; serial = a.serial; ttl = a.ttl; reserved = a.reserved; hour = a.hour; rdata = a.rdata }

abbrev until_rank : Record → Record → ℕ → Record
until_rank a b it = record { rtype = b.rtype; rank = it; flags = a.flags; serial = a.serial; ttl = a.ttl; reserved = a.reserved; hour = a.hour; rdata = a.rdata }

abbrev until_flags : Record → Record → ℕ → Record
until_flags a b it = record { rtype = b.rtype; rank = b.rank; flags = it; serial = a.serial; ttl = a.ttl; reserved = a.reserved; hour = a.hour; rdata = a.rdata }

abbrev until_serial : Record → Record → ℕ → Record
until_serial a b it = record { rtype = b.rtype; rank = b.rank; flags = b.flags; serial = it; ttl = a.ttl; reserved = a.reserved; hour = a.hour; rdata = a.rdata }

abbrev until_ttl : Record → Record → ℕ → Record
until_ttl a b it = record { rtype = b.rtype; rank = b.rank; flags = b.flags; serial = b.serial; ttl = it; reserved = a.reserved; hour = a.hour; rdata = a.rdata }

abbrev until_reserved : Record → Record → ℕ → Record
until_reserved a b it = record { rtype = b.rtype; rank = b.rank; flags = b.flags; serial = b.serial; ttl = b.ttl; reserved = it; hour = a.hour; rdata = a.rdata }

abbrev until_hour : Record → Record → ℕ → Record
until_hour a b it = record { rtype = b.rtype; rank = b.rank; flags = b.flags; serial = b.serial; ttl = b.ttl; reserved = b.reserved; hour = it; rdata = a.rdata }

abbrev until_rdata : Record → Record → List ℕ → Record
until_rdata a b it = record { rtype = b.rtype; rank = b.rank; flags = b.flags; serial = b.serial; ttl = b.ttl; reserved = b.reserved; hour = b.hour; rdata = it }

-- records that are equal in each field are one
pub same_record : (a b : Record) → is_record a b ≡ true → a ≡ b
same_record a b e =
    let first1 = nat_eq a.rtype b.rtype in
    let first2 = first1 && nat_eq a.rank b.rank in
    let first3 = first2 && nat_eq a.flags b.flags in
    let first4 = first3 && nat_eq a.serial b.serial in
    let first5 = first4 && nat_eq a.ttl b.ttl in
    let first6 = first5 && nat_eq a.reserved b.reserved in
    let first7 = first6 && nat_eq a.hour b.hour in
    let bytes = and_parts first7 (pointwise nat_eq a.rdata b.rdata) e in
    let hour = and_parts first6 (nat_eq a.hour b.hour) bytes.0 in
    let reserved = and_parts first5 (nat_eq a.reserved b.reserved) hour.0 in
    let ttl = and_parts first4 (nat_eq a.ttl b.ttl) reserved.0 in
    let serial = and_parts first3 (nat_eq a.serial b.serial) ttl.0 in
    let flags = and_parts first2 (nat_eq a.flags b.flags) serial.0 in
    let rank = and_parts first1 (nat_eq a.rank b.rank) flags.0 in
    ap (until_rtype a b) (same_number a.rtype b.rtype rank.0)
    ∙ ap (until_rank a b) (same_number a.rank b.rank rank.1)
    ∙ ap (until_flags a b) (same_number a.flags b.flags flags.1)
    ∙ ap (until_serial a b) (same_number a.serial b.serial serial.1)
    ∙ ap (until_ttl a b) (same_number a.ttl b.ttl ttl.1)
    ∙ ap (until_reserved a b) (same_number a.reserved b.reserved reserved.1)
    ∙ ap (until_hour a b) (same_number a.hour b.hour hour.1)
    ∙ ap (until_rdata a b) (same_text a.rdata b.rdata (sym bytes.1))

pub record_self : (a : Record) → is_record a a ≡ true
record_self a = simp (nat_eq_equiv.refl, nat_list_eq_equiv.refl)

there_self : (row : Record) → is_there_as row row ≡ true
there_self row =
    and_from (has_data_of row row && nat_eq row.ttl row.ttl) (nat_eq row.hour row.hour)
    (and_from (has_data_of row row) (nat_eq row.ttl row.ttl) (ap is_eq (self_equal row)) (nat_eq_equiv.refl row.ttl))
    (nat_eq_equiv.refl row.hour)

-- a record that is there is there with its time to live and its hour
record_there : (row other : Record) → is_record row other ≡ true → is_there_as row other ≡ true
record_there row other e =
    let P : Record → Type 0 = λ it. is_there_as row it ≡ true in
    subst P (same_record row other e) (there_self row)

record_data : (row other : Record) → is_record other row ≡ true → has_data_of row other ≡ true
record_data row other e =
    let P : Record → Type 0 = λ it. has_data_of it other ≡ true in
    subst P (same_record other row e) (ap is_eq (self_equal other))

-- ---- the same set

or_second : (a b : Bool) → b ≡ true → (a || b) ≡ true
or_second true b e = refl
or_second false b e = e

among_here : (row : Record) (rows : List Record) → list_any (is_record row) (row ∷ rows) ≡ true
among_here row rows = ap (λ found. found || list_any (is_record row) rows) (record_self row)

among_more : (some rows : List Record) (row : Record) → are_among some rows ≡ true → are_among some (row ∷ rows) ≡ true
among_more [] rows row e = refl
among_more (first ∷ some) rows row e =
    let parts = and_parts (list_any (is_record first) rows) (are_among some rows) e in
    and_from (list_any (is_record first) (row ∷ rows)) (are_among some (row ∷ rows))
    (or_second (is_record first row) (list_any (is_record first) rows) parts.0)
    (among_more some rows row parts.1)

among_self : (rows : List Record) → are_among rows rows ≡ true
among_self [] = refl
among_self (row ∷ rows) =
    and_from (list_any (is_record row) (row ∷ rows)) (are_among rows (row ∷ rows))
    (among_here row rows)
    (among_more rows rows row (among_self rows))

pub same_set_self : (rows : List Record) → is_same_set rows rows ≡ true
unfolding is_same_set
same_set_self rows = and_from (are_among rows rows) (are_among rows rows) (among_self rows) (among_self rows)

-- ---- another set: the new record is not among the old ones

either_false : (there others found rest : Bool) → (found ≡ true → there ≡ true) → (others ≡ false → rest ≡ false) → (there || others) ≡ false → (found || rest) ≡ false
either_false true others found rest f g e = cc
either_false false others false rest f g e = g e
either_false false others true rest f g e = let h = f refl in cc

not_found : (row : Record) (rows : List Record) → list_any (is_there_as row) rows ≡ false → list_any (is_record row) rows ≡ false
not_found row [] e = refl
not_found row (next ∷ rows) e =
    either_false (is_there_as row next) (list_any (is_there_as row) rows) (is_record row next) (list_any (is_record row) rows)
    (record_there row next) (not_found row rows) e

placed_at : (order : Ordering) (test : Record → Bool) (row next : Record) (rows rest : List Record) → test row ≡ false → list_all test rest ≡ false → list_all test (match_ordering order (row ∷ next ∷ rows) (row ∷ rows) (next ∷ rest)) ≡ false
placed_at Less test row next rows rest e h = and_left (test row) (list_all test (next ∷ rows)) e
placed_at Equal test row next rows rest e h = and_left (test row) (list_all test rows) e
placed_at Greater test row next rows rest e h = and_right (test next) (list_all test rest) h

-- what the new record fails, not all of the new records pass
placed_fails : (test : Record → Bool) (row : Record) (rows : List Record) → test row ≡ false → list_all test (placed_row row rows) ≡ false
unfolding placed_row
placed_fails test row [] e = and_left (test row) true e
placed_fails test row (next ∷ rows) e =
    placed_at (data_order row next) test row next rows (placed_row row rows) e (placed_fails test row rows e)

pub placed_differs : (row : Record) (rows : List Record) → list_any (is_there_as row) rows ≡ false → is_same_set rows (placed_row row rows) ≡ false
unfolding is_same_set
placed_differs row rows e =
    and_right (are_among rows (placed_row row rows)) (are_among (placed_row row rows) rows)
    (placed_fails (λ it. list_any (is_record it) rows) row rows (not_found row rows e))

-- ---- another set: a record of other data is gone

other_gone : (same others found rest : Bool) → (found ≡ true → same ≡ true) → (others ≡ true → rest ≡ false) → (not same || others) ≡ true → ((found || false) && rest) ≡ false
other_gone same others false rest f g e = refl
other_gone true others true rest f g e = g e
other_gone false others true rest f g e = let h = f refl in cc

others_gone : (row : Record) (rows : List Record) → list_any (λ other. not (has_data_of row other)) rows ≡ true → are_among rows (row ∷ []) ≡ false
others_gone row [] e = sym e
others_gone row (next ∷ rows) e =
    other_gone (has_data_of row next) (list_any (λ other. not (has_data_of row other)) rows) (is_record next row) (are_among rows (row ∷ []))
    (record_data row next) (others_gone row rows) e

pub alone_differs : (row : Record) (rows : List Record) → list_any (λ other. not (has_data_of row other)) rows ≡ true → is_same_set rows (row ∷ []) ≡ false
unfolding is_same_set
alone_differs row rows e = and_left (are_among rows (row ∷ [])) (are_among (row ∷ []) rows) (others_gone row rows e)

-- ---- where no record bars an alias each is one

all_aliases_at : (alias next others : Bool) (row : Record) (rest : List Record) → alias ≡ true → (cond alias (not next) next || others) ≡ false → (others ≡ false → rest ≡ []) → cond (not next) (row ∷ rest) rest ≡ []
all_aliases_at true true others row rest a e f = f e
all_aliases_at true false others row rest a e f = cc
all_aliases_at false next others row rest a e f = cc

pub no_others : (row : Record) (rows : List Record) → is_alias row ≡ true → list_any (bars row) rows ≡ false → without_aliases rows ≡ []
no_others row [] a e = refl
no_others row (next ∷ rows) a e =
    all_aliases_at (is_alias row) (is_alias next) (list_any (bars row) rows) next (without_aliases rows) a e (no_others row rows a)
