-- Names compared.
use Rattle.std.proofs.Common.{◌≡◌, ℕ, suc, ◌-◌, ◌<◌, ◌≤◌, min, Bool, true, false, ◌||◌, ◌↔◌, IsTrue, nat_eq, List, [], ◌∷◌, ◌++◌, length, map, take, drop, reverse, Some, refl, sym, ap, ap₂, ◌∙◌, arith, length-drop, length-take, take-append-drop, Ordering, Less, Equal, Greater, nat_cmp}
use Rattle.std.specs.List.{AllByRecursion}
use Rattle.std.specs.Char.{to_ascii_lowercase}
use Rattle.std.specs.Ordering.{ordering_then}
use Rattle.std.specs.Cmp.Lexicographic.{slice_cmp}
use Rattle.std.proofs.lemmas.Bool.Decides.{nat_tests}
use Rattle.std.proofs.lemmas.List.{drop-map, length-map, length-reverse, reverse-append}
use lib.Pointwise.{pointwise, pointwise_decides, bytes_decides}
use Rattle.dn_name.specs.Name.{Labels, wire_of, lower_label, lowered, is_same, is_under, IsUnder, IsLabel, order}
use Rattle.dn_name.specs.Walk.{ends_in, order_of, first_of}
use Rattle.dn_name.proofs.LowerCaseLemmas.{all-lowered, folded-wire}
use Rattle.dn_name.proofs.LabelWalkLemmas.{wire-injective, the_first, behind_first}

labels_decide : (left right : Labels) → (pointwise (pointwise nat_eq) left right ≡ true → left ≡ right) × (left ≡ right → pointwise (pointwise nat_eq) left right ≡ true)
labels_decide = pointwise_decides bytes_decides

same_test : (a b : Bool) → (a ≡ true → b ≡ true) → (b ≡ true → a ≡ true) → a ≡ b
same_test true b f g = sym (f refl)
same_test false true f g = g refl
same_test false false f g = refl

-- names are equal where their bytes are
pub same_bytes : (left right : Labels) → AllByRecursion IsLabel left → AllByRecursion IsLabel right → pointwise nat_eq (wire_of left) (wire_of right) ≡ pointwise (pointwise nat_eq) left right
same_bytes left right l r =
    same_test (pointwise nat_eq (wire_of left) (wire_of right)) (pointwise (pointwise nat_eq) left right)
    (λ e. (labels_decide left right).1 (wire-injective left right l r ((bytes_decides (wire_of left) (wire_of right)).0 e)))
    (λ e. (bytes_decides (wire_of left) (wire_of right)).1 (ap wire_of ((labels_decide left right).0 e)))

-- names are the same where their bytes in lower case are
pub same_folded : (left right : Labels) → AllByRecursion IsLabel left → AllByRecursion IsLabel right → (wire other : List ℕ) (test : Bool) → wire ≡ wire_of left → other ≡ wire_of right → IsTrue test ↔ (map to_ascii_lowercase wire ≡ map to_ascii_lowercase other) → test ≡ is_same left right
same_folded left right l r wire other test e f means =
    same_test test (is_same left right)
    (λ h. (labels_decide (lowered left) (lowered right)).1
    (wire-injective (lowered left) (lowered right) (all-lowered left l) (all-lowered right r) (sym (folded-wire left l wire e) ∙ means.0 h ∙ folded-wire right r other f)))
    (λ h. means.1 (folded-wire left l wire e ∙ ap wire_of ((labels_decide (lowered left) (lowered right)).0 h) ∙ sym (folded-wire right r other f)))

pub same_means : (left right : Labels) (test : Bool) → test ≡ is_same left right → IsTrue test ↔ (lowered left ≡ lowered right)
same_means left right test e = (
  λ h. (labels_decide (lowered left) (lowered right)).0 (sym e ∙ h),
  λ h. e ∙ (labels_decide (lowered left) (lowered right)).1 h,
)

-- ---- under

pub under_lowered : (name apex : Labels) → is_under name apex ≡ ends_in (lowered name) (lowered apex)
under_lowered [] apex = refl
under_lowered (label ∷ name) apex = ap (λ (b : Bool). is_same (label ∷ name) apex || b) (under_lowered name apex)

or_true : (a b : Bool) → b ≡ true → (a || b) ≡ true
or_true true b e = refl
or_true false b e = e

ends_with_itself : (name above : Labels) → name ≡ above → ends_in name above ≡ true
ends_with_itself [] above e = (labels_decide [] above).1 e
ends_with_itself (label ∷ name) above e = ap (λ (b : Bool). b || ends_in name above) ((labels_decide (label ∷ name) above).1 e)

abbrev EndsIn : Labels → Labels → Type 0
EndsIn name above = (front : Labels) × (name ≡ front ++ above)

by_first : (label : List ℕ) (name above : Labels) (a b : Bool) → (a ≡ true → label ∷ name ≡ above) → (b ≡ true → EndsIn name above) → (a || b) ≡ true → EndsIn (label ∷ name) above
by_first label name above true b f g e = ([], f refl)
by_first label name above false b f g e = let more = g e in (label ∷ more.0, ap (λ (xs : Labels). label ∷ xs) more.1)

ends_means : (name above : Labels) → ends_in name above ≡ true → EndsIn name above
ends_means [] above e = ([], (labels_decide [] above).0 e)
ends_means (label ∷ name) above e =
    by_first label name above (pointwise (pointwise nat_eq) (label ∷ name) above) (ends_in name above)
    (labels_decide (label ∷ name) above).0 (ends_means name above) e

abbrev tail : Labels → Labels
tail [] = []
tail (label ∷ name) = name

ends_from : (front name above : Labels) → name ≡ front ++ above → ends_in name above ≡ true
ends_from [] name above e = ends_with_itself name above e
ends_from (first ∷ front) [] above e = cc
ends_from (first ∷ front) (label ∷ name) above e =
    or_true (pointwise (pointwise nat_eq) (label ∷ name) above) (ends_in name above) (ends_from front name above (ap tail e))

pub under_means : (name apex : Labels) (test : Bool) → test ≡ is_under name apex → IsTrue test ↔ IsUnder name apex
under_means name apex test e = (
  λ h. ends_means (lowered name) (lowered apex) (sym (e ∙ under_lowered name apex) ∙ h),
  λ h. e ∙ under_lowered name apex ∙ ends_from h.0 (lowered name) (lowered apex) h.1,
)

-- ---- order

then_assoc : (a b c : Ordering) → ordering_then (ordering_then a b) c ≡ ordering_then a (ordering_then b c)
then_assoc Less b c = refl
then_assoc Equal b c = refl
then_assoc Greater b c = refl

then_equal : (a : Ordering) → ordering_then a Equal ≡ a
then_equal Less = refl
then_equal Equal = refl
then_equal Greater = refl

cmp_append : (xs ys more others : Labels) → length xs ≡ length ys → slice_cmp (slice_cmp nat_cmp) (xs ++ more) (ys ++ others) ≡ ordering_then (slice_cmp (slice_cmp nat_cmp) xs ys) (slice_cmp (slice_cmp nat_cmp) more others)
cmp_append [] [] more others e = refl
cmp_append [] (y ∷ ys) more others e = absurd (omega arith)
cmp_append (x ∷ xs) [] more others e = absurd (omega arith)
cmp_append (x ∷ xs) (y ∷ ys) more others e =
    ap (ordering_then (slice_cmp nat_cmp x y)) (cmp_append xs ys more others (omega arith))
    ∙ sym (then_assoc (slice_cmp nat_cmp x y) (slice_cmp (slice_cmp nat_cmp) xs ys) (slice_cmp (slice_cmp nat_cmp) more others))

-- what stands in front of labels that are as many decides where these are equal
order_append : (more others xs ys : Labels) → length xs ≡ length ys → order_of (more ++ xs) (others ++ ys) ≡ ordering_then (order_of xs ys) (order_of more others)
order_append more others xs ys e =
    ap₂ (slice_cmp (slice_cmp nat_cmp)) (reverse-append more xs) (reverse-append others ys)
    ∙ cmp_append (reverse xs) (reverse ys) (reverse more) (reverse others) (length-reverse xs ∙ e ∙ sym (length-reverse ys))

order_one : (label other : List ℕ) → order_of (label ∷ []) (other ∷ []) ≡ slice_cmp nat_cmp label other
order_one label other = then_equal (slice_cmp nat_cmp label other)

pub order_step : (label other : List ℕ) (name names : Labels) (otherwise : Ordering) → length name ≡ length names → ordering_then (order_of name names) (ordering_then (slice_cmp nat_cmp label other) otherwise) ≡ ordering_then (order_of (label ∷ name) (other ∷ names)) otherwise
order_step label other name names otherwise e =
    sym (then_assoc (order_of name names) (slice_cmp nat_cmp label other) otherwise)
    ∙ ap (λ (o : Ordering). ordering_then o otherwise)
    (ap (ordering_then (order_of name names)) (sym (order_one label other)) ∙ sym (order_append (label ∷ []) (other ∷ []) name names e))

less_than_some : (xs : Labels) → 0 < length xs → slice_cmp (slice_cmp nat_cmp) [] xs ≡ Less
less_than_some [] h = absurd (omega arith)
less_than_some (x ∷ xs) h = refl

more_than_none : (xs : Labels) → 0 < length xs → slice_cmp (slice_cmp nat_cmp) xs [] ≡ Greater
more_than_none [] h = absurd (omega arith)
more_than_none (x ∷ xs) h = refl

cmp_less : (n m : ℕ) → n < m → nat_cmp n m ≡ Less
cmp_less n m h = grind (arith, nat_tests)

cmp_greater : (n m : ℕ) → m < n → nat_cmp n m ≡ Greater
cmp_greater n m h = grind (arith, nat_tests)

-- where one list is empty, the lengths decide
by_lengths : (xs ys : Labels) → min (length xs) (length ys) ≡ 0 → order_of xs ys ≡ nat_cmp (length xs) (length ys)
by_lengths [] [] h = refl
by_lengths [] (y ∷ ys) h = less_than_some (reverse (y ∷ ys)) (omega (arith, length-reverse (y ∷ ys))) ∙ sym (cmp_less 0 (suc (length ys)) (omega arith))
by_lengths (x ∷ xs) [] h = more_than_none (reverse (x ∷ xs)) (omega (arith, length-reverse (x ∷ xs))) ∙ sym (cmp_greater (suc (length xs)) 0 (omega arith))
by_lengths (x ∷ xs) (y ∷ ys) h = absurd (omega arith)

same_cmp : (n m a b : ℕ) → a ≡ n - min n m → b ≡ m - min n m → nat_cmp a b ≡ nat_cmp n m
same_cmp n m a b p q = grind (arith, nat_tests)

-- the labels that both have as many of decide, and then the counts
module _ (left right : Labels) (a b : ℕ) (left_more : a ≡ length left - min (length left) (length right)) (right_more : b ≡ length right - min (length left) (length right)) where
  pub as_many : length (drop a left) ≡ length (drop b right)
  as_many = omega (arith, length-drop a left, length-drop b right)

  pub order_counted : ordering_then (order_of (drop a left) (drop b right)) (nat_cmp (length left) (length right)) ≡ order_of left right
  order_counted =
      ap (ordering_then (order_of (drop a left) (drop b right)))
      (sym (by_lengths (take a left) (take b right) (omega (arith, length-take a left, length-take b right))
      ∙ ap₂ nat_cmp (length_front a left (omega arith)) (length_front b right (omega arith))
      ∙ same_cmp (length left) (length right) a b left_more right_more))
      ∙ sym (order_append (take a left) (take b right) (drop a left) (drop b right) as_many)
      ∙ ap₂ order_of (take-append-drop a left) (take-append-drop b right)
    where
      length_front : (k : ℕ) (xs : Labels) → k ≤ length xs → length (take k xs) ≡ k
      length_front k xs h = omega (arith, length-take k xs)

-- the same of names in lower case, of which the labels are as many
pub order_lowered : (left right : Labels) (a b : ℕ) → a ≡ length left - min (length left) (length right) → b ≡ length right - min (length left) (length right) → ordering_then (order_of (lowered (drop a left)) (lowered (drop b right))) (nat_cmp (length left) (length right)) ≡ order left right
order_lowered left right a b left_more right_more =
    ap₂ (λ (xs ys : Labels). ordering_then (order_of xs ys) (nat_cmp (length left) (length right))) (sym (drop-map lower_label a left)) (sym (drop-map lower_label b right))
    ∙ ap₂ (λ (n m : ℕ). ordering_then (order_of (drop a (lowered left)) (drop b (lowered right))) (nat_cmp n m)) (sym (length-map left lower_label)) (sym (length-map right lower_label))
    ∙ order_counted (lowered left) (lowered right) a b
    (omega (arith, left_more, length-map left lower_label, length-map right lower_label))
    (omega (arith, right_more, length-map left lower_label, length-map right lower_label))

-- ---- one step of a walk

pub ends_found : (name above : Labels) → AllByRecursion IsLabel name → AllByRecursion IsLabel above → (wire apex : List ℕ) → wire ≡ wire_of name → apex ≡ wire_of above → true ≡ pointwise nat_eq wire apex → true ≡ ends_in name above
ends_found name above l r wire apex e f h =
    sym (ends_with_itself name above (wire-injective name above l r (sym e ∙ (bytes_decides wire apex).0 (sym h) ∙ f)))

pub ends_step : (name above : Labels) → AllByRecursion IsLabel name → AllByRecursion IsLabel above → (wire apex label rest : List ℕ) (found : Bool) → wire ≡ wire_of name → apex ≡ wire_of above → false ≡ pointwise nat_eq wire apex → Some (label, rest) ≡ first_of name → ((names : Labels) → AllByRecursion IsLabel names → rest ≡ wire_of names → found ≡ ends_in names above) → found ≡ ends_in name above
ends_step [] above l r wire apex label rest found e f h first more = cc
ends_step (one ∷ name) above l r wire apex label rest found e f h first more =
    more name l.1 (ap behind_first first)
    ∙ ap (λ (b : Bool). b || ends_in name above) (h ∙ ap₂ (pointwise nat_eq) e f ∙ same_bytes (one ∷ name) above l r)

pub compare_step : (name other : Labels) → AllByRecursion IsLabel name → AllByRecursion IsLabel other → length name ≡ length other → (label rest label' rest' : List ℕ) (found otherwise : Ordering) → Some (label, rest) ≡ first_of name → Some (label', rest') ≡ first_of other → ((names others : Labels) → AllByRecursion IsLabel names → AllByRecursion IsLabel others → length names ≡ length others → rest ≡ wire_of names → rest' ≡ wire_of others → found ≡ ordering_then (order_of (lowered names) (lowered others)) (ordering_then (slice_cmp nat_cmp (lower_label label) (lower_label label')) otherwise)) → found ≡ ordering_then (order_of (lowered name) (lowered other)) otherwise
compare_step [] other l r same label rest label' rest' found otherwise e f more = cc
compare_step (one ∷ name) [] l r same label rest label' rest' found otherwise e f more = cc
compare_step (one ∷ name) (two ∷ other) l r same label rest label' rest' found otherwise e f more =
    more name other l.1 r.1 (omega arith) (ap behind_first e) (ap behind_first f)
    ∙ ap₂ (λ (x y : List ℕ). ordering_then (order_of (lowered name) (lowered other)) (ordering_then (slice_cmp nat_cmp (lower_label x) (lower_label y)) otherwise)) (ap the_first e) (ap the_first f)
    ∙ order_step (lower_label one) (lower_label two) (lowered name) (lowered other) otherwise (omega (arith, length-map name lower_label, length-map other lower_label))
