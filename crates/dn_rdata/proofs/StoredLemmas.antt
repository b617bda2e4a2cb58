-- Data and their stored form.
use Rattle.std.proofs.Common.{◌≡◌, ℕ, zero, suc, ◌+◌, ◌*◌, ◌≤◌, inl, inr, false, nat_eq, List, [], ◌∷◌, ◌++◌, length, take, drop, replicate, Some, refl, sym, ap, ap₂, subst, ◌∙◌, arith, append_assoc, append-nil, length-append, take_at, drop_at}
use Rattle.std.proofs.lemmas.Bool.{cases_lt}
use Rattle.std.proofs.lemmas.Bool.Decides.{nat_tests}
use Rattle.std.proofs.lemmas.List.{nil_from_length}
use Rattle.std.specs.List.{AllByRecursion}
use Rattle.dn_name.specs.Counted.{counted_of}
use Rattle.dn_name.specs.Name.{IsName, Labels, wire_len, wire_of}
use Rattle.dn_name.specs.Wire.{plain_name}
use Rattle.dn_name.proofs.CallerLemmas.{plain_again}
use Rattle.dn_rdata.specs.Layout.{AreParts, IsData, some_bytes}
use Rattle.dn_rdata.specs.declared.parts.Part.{Part}
use Rattle.dn_rdata.specs.declared.parts.Part.TheVariants.{OneName}
use Rattle.dn_rdata.specs.Record.{bytes_before_names, bytes_behind_names, names_in}
use Rattle.dn_rdata.specs.Stored.{HasNames, IsStored, counteds_of, wires_of}
use Rattle.dn_rdata.proofs.TableLemmas.{names_agree}

-- a type has two names at most
pub names_most : (rtype : ℕ) → names_in rtype ≤ 2
names_most rtype = grind (arith, nat_tests)

-- ---- equal bytes, equal parts

-- two fronts of one length, and what is behind them
pub same_split : (left right x y : List ℕ) → length left ≡ length right → left ++ x ≡ right ++ y → (left ≡ right) × (x ≡ y)
same_split left right x y count e = (
  sym (take_at left x (length left) refl) ∙ ap (take (length left)) e ∙ take_at right y (length left) (sym count),
  sym (drop_at left x (length left) refl) ∙ ap (drop (length left)) e ∙ drop_at right y (length left) (sym count),
)

both_of : {left right : Labels × List ℕ} → Some left ≡ Some right → left ≡ right
both_of same = cc

-- two names at the front of the same bytes are one
pub name_once : (left right : Labels) (x y : List ℕ) → IsName left → IsName right → wire_of left ++ x ≡ wire_of right ++ y → (left ≡ right) × (x ≡ y)
name_once left right x y is also e =
    let same = both_of (sym (plain_again left x is) ∙ ap plain_name e ∙ plain_again right y also) in
    (ap (λ (p : Labels × List ℕ). p.0) same, ap (λ (p : Labels × List ℕ). p.1) same)

pub names_once : (left right : List Labels) (x y : List ℕ) → length left ≡ length right → AllByRecursion IsName left → AllByRecursion IsName right
    → wires_of left ++ x ≡ wires_of right ++ y → (left ≡ right) × (x ≡ y)
names_once [] [] x y count is also e = (refl, e)
names_once [] (other ∷ right) x y count is also e = absurd (omega (arith, count))
names_once (name ∷ left) [] x y count is also e = absurd (omega (arith, count))
names_once (name ∷ left) (other ∷ right) x y count is also e =
    let first = name_once name other (wires_of left ++ x) (wires_of right ++ y) is.0 also.0
    (sym (append_assoc (wire_of name) (wires_of left) x) ∙ e ∙ append_assoc (wire_of other) (wires_of right) y) in
    let more = names_once left right x y (omega (arith, count)) is.1 also.1 first.1 in
    (ap₂ ◌∷◌ first.0 more.0, more.1)

pub counteds_once : (left right : List Labels) (x y : List ℕ) → length left ≡ length right → AllByRecursion IsName left → AllByRecursion IsName right
    → counteds_of left ++ x ≡ counteds_of right ++ y → (left ≡ right) × (x ≡ y)
counteds_once [] [] x y count is also e = (refl, e)
counteds_once [] (other ∷ right) x y count is also e = absurd (omega (arith, count))
counteds_once (name ∷ left) [] x y count is also e = absurd (omega (arith, count))
counteds_once (name ∷ left) (other ∷ right) x y count is also e =
    let behind : (wire_of name ++ counteds_of left) ++ x ≡ (wire_of other ++ counteds_of right) ++ y = ap (drop 2) e in
    let first = name_once name other (counteds_of left ++ x) (counteds_of right ++ y) is.0 also.0
    (sym (append_assoc (wire_of name) (counteds_of left) x) ∙ behind ∙ append_assoc (wire_of other) (counteds_of right) y) in
    let more = counteds_once left right x y (omega (arith, count)) is.1 also.1 first.1 in
    (ap₂ ◌∷◌ first.0 more.0, more.1)

pub read_once : (rtype : ℕ) (stored rdata other : List ℕ) → HasNames rtype stored rdata → HasNames rtype stored other → rdata ≡ other
read_once rtype stored rdata other is also =
    let front = same_split is.before also.before (is.behind ++ counteds_of is.names) (also.behind ++ counteds_of also.names)
    (is.before_len ∙ sym also.before_len) (sym is.stored_is ∙ also.stored_is) in
    let back = same_split is.behind also.behind (counteds_of is.names) (counteds_of also.names) (is.behind_len ∙ sym also.behind_len) front.1 in
    let ends : counteds_of is.names ++ [] ≡ counteds_of also.names ++ [] = ap (λ xs. xs ++ []) back.1 in
    let names = (counteds_once is.names also.names [] [] (is.count ∙ sym also.count) is.named also.named ends).0 in
    is.wire_is ∙ ap₂ (λ (xs ys : List ℕ). xs ++ ys) front.0 (ap₂ (λ (ns : List Labels) (ys : List ℕ). wires_of ns ++ ys) names back.0) ∙ sym also.wire_is

pub written_once : (rtype : ℕ) (stored other rdata : List ℕ) → HasNames rtype stored rdata → HasNames rtype other rdata → stored ≡ other
written_once rtype stored other rdata is also =
    let front = same_split is.before also.before (wires_of is.names ++ is.behind) (wires_of also.names ++ also.behind)
    (is.before_len ∙ sym also.before_len) (sym is.wire_is ∙ also.wire_is) in
    let names = names_once is.names also.names is.behind also.behind (is.count ∙ sym also.count) is.named also.named front.1 in
    is.stored_is ∙ ap₂ (λ (xs ys : List ℕ). xs ++ ys) front.0 (ap₂ (λ (ns : List Labels) (ys : List ℕ). ys ++ counteds_of ns) names.0 names.1) ∙ sym also.stored_is

-- ---- data with names are parts

not_zero : (count : ℕ) → nat_eq (suc count) 0 ≡ false
not_zero count = grind (arith, nat_tests)

some_part : (count : ℕ) (bytes rest : List ℕ) (parts : List Part) → length bytes ≡ count → AreParts parts rest → AreParts (some_bytes count ++ parts) (bytes ++ rest)
some_part zero bytes rest parts size are = subst (λ xs. AreParts parts (xs ++ rest)) (sym (nil_from_length bytes size)) are
some_part (suc count) bytes rest parts size are = rw (not_zero count) (rest, (bytes, refl, size), are)

name_parts : (names : List Labels) (rest : List ℕ) (parts : List Part) → AllByRecursion IsName names → AreParts parts rest
    → AreParts (replicate (length names) OneName ++ parts) (wires_of names ++ rest)
name_parts [] rest parts named are = are
name_parts (name ∷ names) rest parts named are =
    (wires_of names ++ rest, (wire_of name, append_assoc (wire_of name) (wires_of names) rest, (name, named.0, refl)), name_parts names rest parts named.1 are)

pub names_are_data : (rtype : ℕ) (stored rdata : List ℕ) → 1 ≤ names_in rtype → HasNames rtype stored rdata → IsData rtype rdata
names_are_data rtype stored rdata some is =
    let ends : AreParts (some_bytes (bytes_behind_names rtype)) is.behind =
    subst (λ xs. AreParts (some_bytes (bytes_behind_names rtype)) xs) (append-nil is.behind)
    (subst (λ ps. AreParts ps (is.behind ++ [])) (append-nil (some_bytes (bytes_behind_names rtype))) (some_part (bytes_behind_names rtype) is.behind [] [] is.behind_len refl)) in
    let named : AreParts (replicate (names_in rtype) OneName ++ some_bytes (bytes_behind_names rtype)) (wires_of is.names ++ is.behind) =
    subst (λ n. AreParts (replicate n OneName ++ some_bytes (bytes_behind_names rtype)) (wires_of is.names ++ is.behind)) is.count
    (name_parts is.names is.behind (some_bytes (bytes_behind_names rtype)) is.named ends) in
    subst (λ ps. AreParts ps rdata) (sym ((names_agree rtype).1 some))
    (subst (λ xs. AreParts (some_bytes (bytes_before_names rtype) ++ (replicate (names_in rtype) OneName ++ some_bytes (bytes_behind_names rtype))) xs) (sym is.wire_is)
    (some_part (bytes_before_names rtype) is.before (wires_of is.names ++ is.behind) (replicate (names_in rtype) OneName ++ some_bytes (bytes_behind_names rtype)) is.before_len named))

-- ---- parts are data with names

bytes_split : (count : ℕ) (parts : List Part) (rdata : List ℕ) → AreParts (some_bytes count ++ parts) rdata
    → (bytes rest : List ℕ) × (length bytes ≡ count) × (rdata ≡ bytes ++ rest) × AreParts parts rest
bytes_split zero parts rdata are = ([], rdata, refl, refl, are)
bytes_split (suc count) parts rdata are =
    let split = rw (not_zero count) at are in
    (split.1.0, split.0, split.1.2, split.1.1, split.2)

names_split : (count : ℕ) (parts : List Part) (rdata : List ℕ) → AreParts (replicate count OneName ++ parts) rdata
    → (names : List Labels) × (rest : List ℕ) × (length names ≡ count) × AllByRecursion IsName names × (rdata ≡ wires_of names ++ rest) × AreParts parts rest
names_split zero parts rdata are = ([], rdata, refl, tt, refl, are)
names_split (suc count) parts rdata are =
    let name = are.1.2 in
    let more = names_split count parts are.0 are.2 in (
      name.0 ∷ more.0,
      more.1,
      ap suc more.2,
      (name.1, more.3),
      are.1.1 ∙ ap₂ (λ (xs ys : List ℕ). xs ++ ys) name.2 more.4 ∙ sym (append_assoc (wire_of name.0) (wires_of more.0) more.1),
      more.5,
    )

pub data_have_names : (rtype : ℕ) (rdata : List ℕ) → 1 ≤ names_in rtype → IsData rtype rdata → (stored : List ℕ) × HasNames rtype stored rdata
data_have_names rtype rdata some is =
    let ends = some_bytes (bytes_behind_names rtype) in
    let front = bytes_split (bytes_before_names rtype) (replicate (names_in rtype) OneName ++ ends) rdata (subst (λ ps. AreParts ps rdata) ((names_agree rtype).1 some) is) in
    let names = names_split (names_in rtype) ends front.1 front.4 in
    let back = bytes_split (bytes_behind_names rtype) [] names.1 (subst (λ ps. AreParts ps names.1) (sym (append-nil ends)) names.5) in
    let behind : names.1 ≡ back.0 = back.3 ∙ ap (λ xs. back.0 ++ xs) back.4 ∙ append-nil back.0 in (
      front.0 ++ (back.0 ++ counteds_of names.0),
      record {
        before = front.0;
        behind = back.0;
        names = names.0;
        before_len = front.2;
        behind_len = back.2;
        count = names.2;
        named = names.3;
        wire_is = front.3 ∙ ap (λ xs. front.0 ++ xs) (names.4 ∙ ap (λ xs. wires_of names.0 ++ xs) behind);
        stored_is = refl;
      },
    )

-- ---- two bytes more for each name

wire_size : (name : Labels) → length (wire_of name) ≡ wire_len name
wire_size [] = refl
wire_size (label ∷ name) = omega (arith, length-append label (wire_of name), wire_size name)

pub counteds_size : (names : List Labels) → length (counteds_of names) ≡ length (wires_of names) + 2 * length names
counteds_size [] = refl
counteds_size (name ∷ names) =
    omega (arith, counteds_size names, length-append (counted_of name) (counteds_of names), length-append (wire_of name) (wires_of names))

pub names_size : (rtype : ℕ) (stored rdata : List ℕ) → HasNames rtype stored rdata → length stored ≡ length rdata + 2 * names_in rtype
names_size rtype stored rdata is =
    omega (
      arith,
      ap length is.stored_is,
      ap length is.wire_is,
      is.count,
      counteds_size is.names,
      length-append is.before (is.behind ++ counteds_of is.names),
      length-append is.behind (counteds_of is.names),
      length-append is.before (wires_of is.names ++ is.behind),
      length-append (wires_of is.names) is.behind,
    )

-- ---- the laws

pub stored_read : (rtype : ℕ) (stored rdata other : List ℕ) → IsStored rtype stored rdata → IsStored rtype stored other → rdata ≡ other
stored_read rtype stored rdata other (inl is) (inl also) = sym is.1 ∙ also.1
stored_read rtype stored rdata other (inl is) (inr also) = absurd (omega (arith, is.0, also.0))
stored_read rtype stored rdata other (inr is) (inl also) = absurd (omega (arith, is.0, also.0))
stored_read rtype stored rdata other (inr is) (inr also) = read_once rtype stored rdata other is.1 also.1

pub stored_written : (rtype : ℕ) (stored other rdata : List ℕ) → IsStored rtype stored rdata → IsStored rtype other rdata → stored ≡ other
stored_written rtype stored other rdata (inl is) (inl also) = is.1 ∙ sym also.1
stored_written rtype stored other rdata (inl is) (inr also) = absurd (omega (arith, is.0, also.0))
stored_written rtype stored other rdata (inr is) (inl also) = absurd (omega (arith, is.0, also.0))
stored_written rtype stored other rdata (inr is) (inr also) = written_once rtype stored other rdata is.1 also.1

pub stored_valid : (rtype : ℕ) (stored rdata : List ℕ) → IsStored rtype stored rdata → IsData rtype rdata
stored_valid rtype stored rdata (inl is) = is.2
stored_valid rtype stored rdata (inr is) = names_are_data rtype stored rdata is.0 is.1

pub data_stored : (rtype : ℕ) (rdata : List ℕ) → IsData rtype rdata → (stored : List ℕ) × IsStored rtype stored rdata
data_stored rtype rdata is =
    elim (cases_lt 0 (names_in rtype)) [
      | inl some ↦ (let has = data_have_names rtype rdata some is in (has.0, inr (some, has.1)))
      | inr none ↦ (rdata, inl (omega (arith, none), refl, is))
    ]

pub stored_sized : (rtype : ℕ) (stored rdata : List ℕ) → IsStored rtype stored rdata → length stored ≡ length rdata + 2 * names_in rtype
stored_sized rtype stored rdata (inl is) = omega (arith, ap length is.1, is.0)
stored_sized rtype stored rdata (inr is) = names_size rtype stored rdata is.1
