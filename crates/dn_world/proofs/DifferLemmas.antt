-- Tests of the items of a list, and lists of which no two items are the same, where one is added behind it or takes another's place.
use Rattle.std.proofs.Common.{◌≡◌, ℕ, zero, suc, ◌+◌, ◌<◌, ◌≤◌, Bool, true, false, true≢false, cond, ◌||◌, List, [], ◌∷◌, ◌++◌, Option, Some, refl, sym, ap, subst, arith, ◌∙◌}
use Rattle.std.specs.List.{list_any}
use Rattle.std.specs.Prelude.{count_by, find, slice_get, slice_set}
use Rattle.dn_store.proofs.CallerLemmas.{count_cons, ones}
use Rattle.dn_world.specs.Runs.{NoTwo}

or_more : (a b c : Bool) → (b ≡ true → c ≡ true) → (a || b) ≡ true → (a || c) ≡ true
or_more true b c on is = refl
or_more false b c on is = on is

or_none : (a b c : Bool) → (b ≡ false → c ≡ false) → (a || b) ≡ false → (a || c) ≡ false
or_none true b c on is = is
or_none false b c on is = on is

or_parts : (a b : Bool) → (a || b) ≡ false → (a ≡ false) × (b ≡ false)
or_parts true b is = absurd (true≢false is)
or_parts false b is = (refl, is)

or_first : (a b : Bool) → a ≡ true → (a || b) ≡ true
or_first a b is = rw is refl

or_second : (a b : Bool) → b ≡ true → (a || b) ≡ true
or_second true b is = refl
or_second false b is = is

-- ---- whether any item passes a test

pub any_same : {A : Type 0} (p q : A → Bool) (list : List A) → ((one : A) → p one ≡ q one) → list_any p list ≡ list_any q list
any_same {A} p q list same = ap (λ (test : A → Bool). list_any test list) (λ i one. same one i)

pub any_more : {A : Type 0} (p : A → Bool) (list : List A) (one : A) → list_any p list ≡ true → list_any p (list ++ one ∷ []) ≡ true
any_more p [] one is = absurd (true≢false (sym is))
any_more p (first ∷ rest) one is = or_more (p first) (list_any p rest) (list_any p (rest ++ one ∷ [])) (any_more p rest one) is

none_more : {A : Type 0} (p : A → Bool) (list : List A) (one : A) → list_any p list ≡ false → p one ≡ false → list_any p (list ++ one ∷ []) ≡ false
none_more p [] one none last = rw last refl
none_more p (first ∷ rest) one none last =
    or_none (p first) (list_any p rest) (list_any p (rest ++ one ∷ [])) (λ others. none_more p rest one others last) none

pub any_set : {A : Type 0} (p : A → Bool) (list : List A) (at : ℕ) (old new : A) → slice_get list at ≡ Some old → p new ≡ p old
    → list_any p (slice_set list at new) ≡ list_any p list
any_set p [] at old new is same = absurd (cc)
any_set p (first ∷ rest) zero old new is same =
    let e : first ≡ old = cc in
    ap (λ (b : Bool). b || list_any p rest) (same ∙ ap p (sym e))
any_set p (first ∷ rest) (suc at) old new is same = ap (λ (b : Bool). p first || b) (any_set p rest at old new is same)

none_at : {A : Type 0} (p : A → Bool) (list : List A) (at : ℕ) (one : A) → list_any p list ≡ false → slice_get list at ≡ Some one → p one ≡ false
none_at p [] at one none is = absurd (cc)
none_at p (first ∷ rest) zero one none is =
    let e : first ≡ one = cc in
    subst (λ it. p it ≡ false) e (or_parts (p first) (list_any p rest) none).0
none_at p (first ∷ rest) (suc at) one none is = none_at p rest at one (or_parts (p first) (list_any p rest) none).1 is

found_by : {A : Type 0} (q : A → Bool) (first one : A) (found : Option A) (others : Bool) (b : Bool) → cond b (Some first) found ≡ Some one → q one ≡ true
    → (found ≡ Some one → others ≡ true) → (q first || others) ≡ true
found_by q first one found others true is passes later =
    let e : first ≡ one = cc in
    or_first (q first) others (ap q e ∙ passes)
found_by q first one found others false is passes later = or_second (q first) others (later is)

-- what is found by one test and passes another is one that passes that
pub any_found : {A : Type 0} (p q : A → Bool) (list : List A) (one : A) → find p list ≡ Some one → q one ≡ true → list_any q list ≡ true
any_found p q [] one is passes = absurd (cc)
any_found p q (first ∷ rest) one is passes =
    found_by q first one (find p rest) (list_any q rest) (p first) is passes (λ found. any_found p q rest one found passes)

-- ---- no two the same

pub no_two_more : {A : Type 0} (same : A → A → Bool) (list : List A) (one : A) → NoTwo same list → list_any (λ it. same it one) list ≡ false
    → NoTwo same (list ++ one ∷ [])
no_two_more same [] one two none = (refl, tt)
no_two_more same (first ∷ rest) one two none =
    let parts = or_parts (same first one) (list_any (λ it. same it one) rest) none in
    (none_more (same first) rest one two.0 parts.0, no_two_more same rest one two.1 parts.1)

pub no_two_set : {A : Type 0} (same : A → A → Bool) (list : List A) (at : ℕ) (old new : A) → slice_get list at ≡ Some old
    → ((other : A) → same new other ≡ same old other) → ((other : A) → same other new ≡ same other old) → NoTwo same list → NoTwo same (slice_set list at new)
no_two_set same [] at old new is left right two = tt
no_two_set same (first ∷ rest) zero old new is left right two =
    let e : first ≡ old = cc in
    (any_same (same new) (same first) rest (λ other. left other ∙ ap (λ it. same it other) (sym e)) ∙ two.0, two.1)
no_two_set same (first ∷ rest) (suc at) old new is left right two =
    (any_set (same first) rest at old new is (right first) ∙ two.0, no_two_set same rest at old new is left right two.1)

-- each is the first that is the same as it
pub found_alone : {A : Type 0} (same : A → A → Bool) (list : List A) (at : ℕ) (one : A) → NoTwo same list → slice_get list at ≡ Some one → same one one ≡ true
    → find (λ it. same it one) list ≡ Some one
found_alone same [] at one two is itself = absurd (cc)
found_alone same (first ∷ rest) zero one two is itself =
    let e : first ≡ one = cc in
    let passes : same first one ≡ true = ap (λ it. same it one) e ∙ itself in
    ap (λ (b : Bool). cond b (Some first) (find (λ it. same it one) rest)) passes ∙ ap Some e
found_alone same (first ∷ rest) (suc at) one two is itself =
    ap (λ (b : Bool). cond b (Some first) (find (λ it. same it one) rest)) (none_at (same first) rest at one two.0 is) ∙ found_alone same rest at one two.1 is itself

more_by : {A : Type 0} (first one : A) (found later : Option A) (b : Bool) → (found ≡ Some one → later ≡ Some one) → cond b (Some first) found ≡ Some one
    → cond b (Some first) later ≡ Some one
more_by first one found later true on is = is
more_by first one found later false on is = on is

pub find_more : {A : Type 0} (p : A → Bool) (list : List A) (one other : A) → find p list ≡ Some one → find p (list ++ other ∷ []) ≡ Some one
find_more p [] one other is = absurd (cc)
find_more p (first ∷ rest) one other is = more_by first one (find p rest) (find p (rest ++ other ∷ [])) (p first) (find_more p rest one other) is

-- ---- how many items pass a test

count_one : {A : Type 0} (p : A → Bool) (list : List A) (one : A) → count_by p (list ++ one ∷ []) ≡ count_by p list + ones (p one)
count_one p [] one =
    let here : count_by p (one ∷ []) ≡ ones (p one) + count_by p [] = count_cons p one [] in
    let none : count_by p [] ≡ 0 = refl in
    omega arith
count_one p (first ∷ rest) one =
    let before : count_by p (first ∷ rest) ≡ ones (p first) + count_by p rest = count_cons p first rest in
    let after : count_by p (first ∷ (rest ++ one ∷ [])) ≡ ones (p first) + count_by p (rest ++ one ∷ []) = count_cons p first (rest ++ one ∷ []) in
    let more : count_by p (rest ++ one ∷ []) ≡ count_by p rest + ones (p one) = count_one p rest one in
    omega arith

-- one more leaves the count within a limit, where there was room for one that passes
pub count_more : {A : Type 0} (p : A → Bool) (list : List A) (one : A) (limit : ℕ) (b : Bool) → p one ≡ b → count_by p list ≤ limit → (b ≡ true → count_by p list < limit)
    → count_by p (list ++ one ∷ []) ≤ limit
count_more p list one limit true is within room =
    let more : count_by p (list ++ one ∷ []) ≡ count_by p list + ones true = count_one p list one ∙ ap (λ (b : Bool). count_by p list + ones b) is in
    let some : count_by p list < limit = room refl in
    omega arith
count_more p list one limit false is within room =
    let more : count_by p (list ++ one ∷ []) ≡ count_by p list + ones false = count_one p list one ∙ ap (λ (b : Bool). count_by p list + ones b) is in
    omega arith

pub count_set : {A : Type 0} (p : A → Bool) (list : List A) (at : ℕ) (old new : A) → slice_get list at ≡ Some old → p new ≡ p old
    → count_by p (slice_set list at new) ≡ count_by p list
count_set p [] at old new is same = absurd (cc)
count_set p (first ∷ rest) zero old new is same =
    let e : first ≡ old = cc in
    count_cons p new rest ∙ ap (λ (b : Bool). ones b + count_by p rest) (same ∙ ap p (sym e)) ∙ sym (count_cons p first rest)
count_set p (first ∷ rest) (suc at) old new is same =
    count_cons p first (slice_set rest at new) ∙ ap (λ (count : ℕ). ones (p first) + count) (count_set p rest at old new is same) ∙ sym (count_cons p first rest)
