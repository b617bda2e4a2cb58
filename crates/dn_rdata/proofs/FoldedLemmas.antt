-- The bytes of a record's data with its names in lower case, and the order of such data.
use Rattle.std.proofs.Common.{◌≡◌, ℕ, zero, suc, ◌+◌, ◌-◌, ◌<◌, ◌≤◌, ◌⊎◌, inl, inr, Bool, true, false, List, [], ◌∷◌, ◌++◌, length, get_or, map, take, drop, refl, ap, ap₂, sym, subst, ◌∙◌, append_assoc, arith, cond, drop_at, length-append, nat_eq, take_at}
use Rattle.std.proofs.lemmas.Bool.{cases_Bool, cases_lt}
use Rattle.std.proofs.lemmas.Bool.Decides.{nat_tests}
use Rattle.std.proofs.lemmas.Grind.{common_steps}
use Rattle.std.proofs.lemmas.List.{drop_more, map-append, nil_from_length}
use Rattle.std.specs.List.{AllByRecursion}
use Rattle.std.specs.Prelude.{min, not, ◌&&◌, nat_le, nat_lt, if◌then◌else◌}
use Rattle.std.specs.Ordering.{nat_cmp, ordering_then}
use Rattle.std.specs.declared.cmp.Ordering.{Ordering}
use Rattle.std.specs.declared.cmp.Ordering.TheVariants.{Less, Equal, Greater}
use Rattle.dn_name.specs.Name.{IsName, Labels, lower_byte, lowered, wire_of}
use Rattle.dn_name.proofs.CallerLemmas.{lower_wire}
use Rattle.dn_rdata.specs.Record.{bytes_before_names, bytes_behind_names, bytes_cmp, folded, names_in}
use Rattle.dn_rdata.specs.Stored.{wires_of}

-- the data with a middle part in lower case
abbrev mix : ℕ → ℕ → List ℕ → List ℕ
mix before end rdata = take before rdata ++ map lower_byte (drop before (take end rdata)) ++ drop end rdata

mix_len : (before end : ℕ) (rdata : List ℕ) → (before ≤ end) ⊎ (length rdata ≤ end) → length (mix before end rdata) ≡ length rdata
mix_len zero end [] h = grind (arith, common_steps)
mix_len (suc before) end [] h = grind (arith, common_steps)
mix_len zero zero (byte ∷ rdata) h = refl
mix_len zero (suc end) (byte ∷ rdata) h = ap suc (mix_len zero end rdata (inl (omega arith)))
mix_len (suc before) zero (byte ∷ rdata) h = absurd (elim h [ inl a ↦ omega arith | inr b ↦ omega arith ])
mix_len (suc before) (suc end) (byte ∷ rdata) h = ap suc (mix_len before end rdata (elim h [ inl a ↦ inl (omega arith) | inr b ↦ inr (omega arith) ]))

mix_in : (before end : ℕ) (rdata : List ℕ) (at : ℕ) → before ≤ at → at < end → at < length rdata → get_or (mix before end rdata) at 0 ≡ lower_byte (get_or rdata at 0)
mix_in before end [] at from to lt = absurd (omega arith)
mix_in before zero (byte ∷ rdata) at from to lt = absurd (omega arith)
mix_in zero (suc end) (byte ∷ rdata) zero from to lt = refl
mix_in zero (suc end) (byte ∷ rdata) (suc at) from to lt = mix_in zero end rdata at (omega arith) (omega arith) (omega arith)
mix_in (suc before) (suc end) (byte ∷ rdata) zero from to lt = absurd (omega arith)
mix_in (suc before) (suc end) (byte ∷ rdata) (suc at) from to lt = mix_in before end rdata at (omega arith) (omega arith) (omega arith)

mix_out : (before end : ℕ) (rdata : List ℕ) (at : ℕ) → (before ≤ end) ⊎ (length rdata ≤ end) → (at < before) ⊎ (end ≤ at) → at < length rdata → get_or (mix before end rdata) at 0 ≡ get_or rdata at 0
mix_out before end [] at h out lt = absurd (omega arith)
mix_out zero zero (byte ∷ rdata) at h out lt = refl
mix_out zero (suc end) (byte ∷ rdata) zero h out lt = absurd (elim out [ inl a ↦ omega arith | inr b ↦ omega arith ])
mix_out zero (suc end) (byte ∷ rdata) (suc at) h out lt =
    mix_out zero end rdata at (inl (omega arith)) (inr (elim out [ inl a ↦ omega arith | inr b ↦ omega arith ])) (omega arith)
mix_out (suc before) zero (byte ∷ rdata) at h out lt = absurd (elim h [ inl a ↦ omega arith | inr b ↦ omega arith ])
mix_out (suc before) (suc end) (byte ∷ rdata) zero h out lt = refl
mix_out (suc before) (suc end) (byte ∷ rdata) (suc at) h out lt =
    mix_out before end rdata at (elim h [ inl a ↦ inl (omega arith) | inr b ↦ inr (omega arith) ]) (elim out [ inl a ↦ inl (omega arith) | inr b ↦ inr (omega arith) ]) (omega arith)

-- no type has bytes both before and behind its names
one_side : (rtype : ℕ) → (bytes_before_names rtype ≡ 0) ⊎ (bytes_behind_names rtype ≡ 0)
one_side rtype = elim (cases_Bool (nat_eq rtype 6)) [ inl is_so ↦ inl (grind (arith, nat_tests)) | inr not_so ↦ inr (grind (arith, nat_tests)) ]

sides : (before behind len : ℕ) → (before ≡ 0) ⊎ (behind ≡ 0) → (before ≤ len - behind) ⊎ (len ≤ len - behind)
sides before behind len h = elim h [ inl a ↦ inl (omega arith) | inr b ↦ inr (omega arith) ]

-- whether a place lies in the names
abbrev in_names : ℕ → ℕ → ℕ → ℕ → ℕ → Bool
in_names names before behind len at = not (nat_eq names 0) && nat_le before at && nat_lt at (len - behind)

abbrev fold_at : ℕ → ℕ → ℕ → List ℕ → List ℕ
fold_at names before behind rdata = if nat_eq names 0 then rdata else mix before (length rdata - behind) rdata

fold_len : (names before behind : ℕ) (rdata : List ℕ) → (before ≡ 0) ⊎ (behind ≡ 0) → length (fold_at names before behind rdata) ≡ length rdata
fold_len names before behind rdata h =
    elim (nat_eq names 0) as (λ b. length (cond b rdata (mix before (length rdata - behind) rdata)) ≡ length rdata)
    [ true ↦ refl | false ↦ mix_len before (length rdata - behind) rdata (sides before behind (length rdata) h) ]

fold_in : (names before behind : ℕ) (rdata : List ℕ) (at : ℕ) → at < length rdata → in_names names before behind (length rdata) at ≡ true
    → get_or (fold_at names before behind rdata) at 0 ≡ lower_byte (get_or rdata at 0)
fold_in names before behind rdata at lt is =
    let not_so : nat_eq names 0 ≡ false = grind (arith, nat_tests) in
    let from : before ≤ at = grind (arith, nat_tests) in
    let to : at < length rdata - behind = grind (arith, nat_tests) in
    subst (λ b. get_or (cond b rdata (mix before (length rdata - behind) rdata)) at 0 ≡ lower_byte (get_or rdata at 0)) (sym not_so) (mix_in before (length rdata - behind) rdata at from to lt)

out_of : (names before behind len at : ℕ) → nat_eq names 0 ≡ false → in_names names before behind len at ≡ false → (at < before) ⊎ (len - behind ≤ at)
out_of names before behind len at not_so is =
    elim (cases_lt at before) [ inl below ↦ inl below | inr from ↦ inr (elim (cases_lt at (len - behind)) [ inl lt ↦ absurd (grind (arith, nat_tests)) | inr ge ↦ ge ]) ]

fold_out : (names before behind : ℕ) (rdata : List ℕ) (at : ℕ) → (before ≡ 0) ⊎ (behind ≡ 0) → at < length rdata → in_names names before behind (length rdata) at ≡ false
    → get_or (fold_at names before behind rdata) at 0 ≡ get_or rdata at 0
fold_out names before behind rdata at h lt is =
    elim (cases_Bool (nat_eq names 0)) [
      | inl is_so ↦ subst (λ b. get_or (cond b rdata (mix before (length rdata - behind) rdata)) at 0 ≡ get_or rdata at 0) (sym is_so) refl
      | inr not_so ↦
          let out : (at < before) ⊎ (length rdata - behind ≤ at) = out_of names before behind (length rdata) at not_so is in
          subst (λ b. get_or (cond b rdata (mix before (length rdata - behind) rdata)) at 0 ≡ get_or rdata at 0) (sym not_so)
          (mix_out before (length rdata - behind) rdata at (sides before behind (length rdata) h) out lt)
    ]

pub folded_len : (rtype : ℕ) (rdata : List ℕ) → length (folded rtype rdata) ≡ length rdata
folded_len rtype rdata = fold_len (names_in rtype) (bytes_before_names rtype) (bytes_behind_names rtype) rdata (one_side rtype)

pub folded_in : (rtype : ℕ) (rdata : List ℕ) (at : ℕ) → at < length rdata → in_names (names_in rtype) (bytes_before_names rtype) (bytes_behind_names rtype) (length rdata) at ≡ true
    → get_or (folded rtype rdata) at 0 ≡ lower_byte (get_or rdata at 0)
folded_in rtype rdata at lt is = fold_in (names_in rtype) (bytes_before_names rtype) (bytes_behind_names rtype) rdata at lt is

pub folded_out : (rtype : ℕ) (rdata : List ℕ) (at : ℕ) → at < length rdata → in_names (names_in rtype) (bytes_before_names rtype) (bytes_behind_names rtype) (length rdata) at ≡ false
    → get_or (folded rtype rdata) at 0 ≡ get_or rdata at 0
folded_out rtype rdata at lt is = fold_out (names_in rtype) (bytes_before_names rtype) (bytes_behind_names rtype) rdata at (one_side rtype) lt is

-- ---- the order of two lists of bytes

pub cmp_more : (left right : List ℕ) (at : ℕ) → at < length left → at < length right
    → bytes_cmp (drop at left) (drop at right) ≡ ordering_then (nat_cmp (get_or left at 0) (get_or right at 0)) (bytes_cmp (drop (at + 1) left) (drop (at + 1) right))
cmp_more left right at first second = rw (drop_more left at 0 first, drop_more right at 0 second) refl

cmp_left_ends : (right : List ℕ) → bytes_cmp [] right ≡ nat_cmp 0 (length right)
cmp_left_ends [] = refl
cmp_left_ends (byte ∷ right) = grind (arith, nat_tests)

cmp_right_ends : (left : List ℕ) → bytes_cmp left [] ≡ nat_cmp (length left) 0
cmp_right_ends [] = refl
cmp_right_ends (byte ∷ left) = grind (arith, nat_tests)

cmp_suc : (m n : ℕ) → nat_cmp m n ≡ nat_cmp (suc m) (suc n)
cmp_suc m n = grind (arith, nat_tests)

-- where one of them ends, the longer comes later
pub cmp_end : (left right : List ℕ) (at : ℕ) → at ≤ length left → at ≤ length right → (length left ≤ at) ⊎ (length right ≤ at) → bytes_cmp (drop at left) (drop at right) ≡ nat_cmp (length left) (length right)
cmp_end [] right zero first second ends = cmp_left_ends right
cmp_end (byte ∷ left) [] zero first second ends = cmp_right_ends (byte ∷ left)
cmp_end (byte ∷ left) (other ∷ right) zero first second ends = absurd (elim ends [ inl a ↦ omega arith | inr b ↦ omega arith ])
cmp_end [] right (suc at) first second ends = absurd (omega arith)
cmp_end (byte ∷ left) [] (suc at) first second ends = absurd (omega arith)
cmp_end (byte ∷ left) (other ∷ right) (suc at) first second ends =
    cmp_end left right at (omega arith) (omega arith) (elim ends [ inl a ↦ inl (omega arith) | inr b ↦ inr (omega arith) ]) ∙ cmp_suc (length left) (length right)

-- one turn of the comparison
abbrev after_both : List ℕ → List ℕ → ℕ → Ordering
after_both left right at = bytes_cmp (drop (at + 1) left) (drop (at + 1) right)

pub less_at : (left right : List ℕ) (at byte other : ℕ) → at < length left → at < length right → byte ≡ get_or left at 0 → other ≡ get_or right at 0 → byte < other
    → bytes_cmp (drop at left) (drop at right) ≡ bytes_cmp left right → Less ≡ bytes_cmp left right
less_at left right at byte other first second b o lt inv =
    let e : nat_cmp (get_or left at 0) (get_or right at 0) ≡ Less = grind (arith, nat_tests) in
    sym (sym inv ∙ cmp_more left right at first second ∙ ap (λ (order : Ordering). ordering_then order (after_both left right at)) e)

pub greater_at : (left right : List ℕ) (at byte other : ℕ) → at < length left → at < length right → byte ≡ get_or left at 0 → other ≡ get_or right at 0 → other < byte
    → bytes_cmp (drop at left) (drop at right) ≡ bytes_cmp left right → Greater ≡ bytes_cmp left right
greater_at left right at byte other first second b o lt inv =
    let e : nat_cmp (get_or left at 0) (get_or right at 0) ≡ Greater = grind (arith, nat_tests) in
    sym (sym inv ∙ cmp_more left right at first second ∙ ap (λ (order : Ordering). ordering_then order (after_both left right at)) e)

pub equal_at : (left right : List ℕ) (at byte other : ℕ) → at < length left → at < length right → byte ≡ get_or left at 0 → other ≡ get_or right at 0 → other ≤ byte → byte ≤ other
    → bytes_cmp (drop at left) (drop at right) ≡ bytes_cmp left right → bytes_cmp (drop (at + 1) left) (drop (at + 1) right) ≡ bytes_cmp left right
equal_at left right at byte other first second b o le ge inv =
    let e : nat_cmp (get_or left at 0) (get_or right at 0) ≡ Equal = grind (arith, nat_tests) in
    sym (cmp_more left right at first second ∙ ap (λ (order : Ordering). ordering_then order (after_both left right at)) e) ∙ inv

-- the comparison behind the end of one of them
pub cmp_ends : (left right : List ℕ) (at m n end : ℕ) → length left ≡ m → length right ≡ n → end ≡ min m n → at ≤ end → end ≤ at → bytes_cmp (drop at left) (drop at right) ≡ nat_cmp m n
cmp_ends left right at m n end first second is to from =
    let ends : (length left ≤ at) ⊎ (length right ≤ at) = elim (cases_lt m n) [ inl lt ↦ inl (omega arith) | inr ge ↦ inr (omega arith) ] in
    cmp_end left right at (omega arith) (omega arith) ends ∙ ap (λ (k : ℕ). nat_cmp k (length right)) first ∙ ap (nat_cmp m) second

-- ---- data that are bytes, names and bytes

mix_middle : (front middle back : List ℕ) → mix (length front) (length (front ++ (middle ++ back)) - length back) (front ++ (middle ++ back)) ≡ front ++ (map lower_byte middle ++ back)
mix_middle front middle back =
    let whole : front ++ (middle ++ back) ≡ (front ++ middle) ++ back = sym (append_assoc front middle back) in
    let size : length (front ++ middle) ≡ length (front ++ (middle ++ back)) - length back = omega (arith, length-append front (middle ++ back), length-append middle back, length-append front middle) in
    let names : drop (length front) (take (length (front ++ (middle ++ back)) - length back) (front ++ (middle ++ back))) ≡ middle =
    ap (λ xs. drop (length front) (take (length (front ++ (middle ++ back)) - length back) xs)) whole
    ∙ ap (drop (length front)) (take_at (front ++ middle) back (length (front ++ (middle ++ back)) - length back) size)
    ∙ drop_at front middle (length front) refl in
    let ends : drop (length (front ++ (middle ++ back)) - length back) (front ++ (middle ++ back)) ≡ back =
    ap (drop (length (front ++ (middle ++ back)) - length back)) whole ∙ drop_at (front ++ middle) back (length (front ++ (middle ++ back)) - length back) size in
    ap₂ (λ (xs ys : List ℕ). xs ++ ys) (ap₂ (λ (xs ys : List ℕ). xs ++ ys) (take_at front (middle ++ back) (length front) refl) (ap (map lower_byte) names)) ends
    ∙ append_assoc front (map lower_byte middle) back

lower_names : (names : List Labels) → AllByRecursion IsName names → map lower_byte (wires_of names) ≡ wires_of (map lowered names)
lower_names [] named = refl
lower_names (name ∷ names) named =
    map-append lower_byte (wire_of name) (wires_of names) ∙ ap₂ (λ (xs ys : List ℕ). xs ++ ys) (lower_wire name named.0.0) (lower_names names named.1)

abbrev around : List ℕ → List ℕ → List Labels → List ℕ
around before behind names = before ++ (wires_of names ++ behind)

fold_names : (count front back : ℕ) (before behind : List ℕ) (names : List Labels) → length before ≡ front → length behind ≡ back → length names ≡ count → AllByRecursion IsName names
    → fold_at count front back (before ++ (wires_of names ++ behind)) ≡ before ++ (wires_of (map lowered names) ++ behind)
fold_names count front back before behind names front_is back_is count_is named =
    elim (cases_Bool (nat_eq count 0)) [
      | inl none ↦
          let zero_is : count ≡ 0 = grind (arith, nat_tests) in
          let no_names : names ≡ [] = nil_from_length names (count_is ∙ zero_is) in
          ap (λ (b : Bool). cond b (around before behind names) (mix front (length (around before behind names) - back) (around before behind names))) none
          ∙ ap (λ (ns : List Labels). around before behind ns) no_names
          ∙ sym (ap (λ (ns : List Labels). around before behind (map lowered ns)) no_names)
      | inr some ↦
          ap (λ (b : Bool). cond b (around before behind names) (mix front (length (around before behind names) - back) (around before behind names))) some
          ∙ ap₂ (λ (m n : ℕ). mix m (length (around before behind names) - n) (around before behind names)) (sym front_is) (sym back_is)
          ∙ mix_middle before (wires_of names) behind
          ∙ ap (λ (xs : List ℕ). before ++ (xs ++ behind)) (lower_names names named)
    ]

pub names_folded : (rtype : ℕ) (before behind : List ℕ) (names : List Labels) → length before ≡ bytes_before_names rtype → length behind ≡ bytes_behind_names rtype → length names ≡ names_in rtype
    → AllByRecursion IsName names → folded rtype (before ++ (wires_of names ++ behind)) ≡ before ++ (wires_of (map lowered names) ++ behind)
names_folded rtype before behind names front_is back_is count_is named =
    fold_names (names_in rtype) (bytes_before_names rtype) (bytes_behind_names rtype) before behind names front_is back_is count_is named

fold_others : (count front back : ℕ) (rdata : List ℕ) → count ≡ 0 → fold_at count front back rdata ≡ rdata
fold_others count front back rdata none =
    let is_zero : nat_eq count 0 ≡ true = grind (arith, nat_tests) in
    ap (λ (b : Bool). cond b rdata (mix front (length rdata - back) rdata)) is_zero

pub others_folded : (rtype : ℕ) (rdata : List ℕ) → names_in rtype ≡ 0 → folded rtype rdata ≡ rdata
others_folded rtype rdata none = fold_others (names_in rtype) (bytes_before_names rtype) (bytes_behind_names rtype) rdata none
