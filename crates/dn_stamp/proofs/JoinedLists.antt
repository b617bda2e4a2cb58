-- What a list of values that agree is joined into: it has each of them, and whatever has each of them has it.
use Rattle.std.proofs.Common.{List, [], ◌∷◌, ◌≡◌, ◌∙◌, ap, sym}
use Rattle.std.specs.List.{fold, AllByRecursion, Contains}
use Rattle.std.proofs.lemmas.List.Elements.{All-contains, All-contains_itself, All-from_recursion, recursion_from_All}
use Rattle.dn_stamp.specs.Order.{AllAgree, HasEach, OrderIsFree}

-- the laws of a join
pub record Laws (J : Type 0) (agree : J → J → Type 0) (joined : J → J → J) : Type 0 where
  pub itself : (one : J) → agree one one
  pub both : (left right : J) → agree left right → agree right left
  pub commutes : (left right : J) → agree left right → joined left right ≡ joined right left
  pub associates : (left mid right : J) → agree left mid → agree mid right → agree left right → joined (joined left mid) right ≡ joined left (joined mid right)
  pub idempotent : (one : J) → joined one one ≡ one
  pub onward : (left right other : J) → agree left other → agree right other → agree (joined left right) other

-- joined of items: it agrees with whatever each of them agrees with
abbrev Made : (J : Type 0) → (J → J → Type 0) → List J → J → Type 0
Made J agree items x = (other : J) → ((item : J) → Contains items item → agree item other) → agree x other

-- it has the other in it already
abbrev Has : (J : Type 0) → (J → J → J) → J → J → Type 0
Has J joined x other = joined x other ≡ x

item_made : (J : Type 0) (agree : J → J → Type 0) (items : List J) (x : J) → Contains items x → Made J agree items x
item_made J agree items x is = λ other all. all x is

joined_made : (J : Type 0) (agree : J → J → Type 0) (joined : J → J → J) (laws : Laws J agree joined) (items : List J) (x y : J)
    → Made J agree items x → Made J agree items y → Made J agree items (joined x y)
joined_made J agree joined laws items x y one two = λ other all. laws.onward x y other (one other all) (two other all)

made_agree : (J : Type 0) (agree : J → J → Type 0) (joined : J → J → J) (laws : Laws J agree joined) (items : List J) → AllAgree agree items
    → (x y : J) → Made J agree items x → Made J agree items y → agree x y
made_agree J agree joined laws items agreed x y one two =
    one y (λ item is. laws.both y item (two item (λ second second-is. agreed second item second-is is)))

-- what it has it has still after a join
has_onward : (J : Type 0) (agree : J → J → Type 0) (joined : J → J → J) (laws : Laws J agree joined) (x y other : J)
    → agree x y → agree y other → agree x other → agree other y → Has J joined x other → Has J joined (joined x y) other
has_onward J agree joined laws x y other xy yo xo oy has =
    laws.associates x y other xy yo xo
    ∙ ap (joined x) (laws.commutes y other yo)
    ∙ sym (laws.associates x other y xo oy xy)
    ∙ ap (λ found. joined found y) has

has_last : (J : Type 0) (agree : J → J → Type 0) (joined : J → J → J) (laws : Laws J agree joined) (x y : J)
    → agree x y → Has J joined (joined x y) y
has_last J agree joined laws x y xy =
    laws.associates x y y xy (laws.itself y) xy ∙ ap (joined x) (laws.idempotent y)

fold_made : (J : Type 0) (agree : J → J → Type 0) (joined : J → J → J) (laws : Laws J agree joined) (items : List J) (first : J) (rest : List J)
    → Made J agree items first → AllByRecursion (Made J agree items) rest → Made J agree items (fold joined first rest)
fold_made J agree joined laws items first [] made all = made
fold_made J agree joined laws items first (y ∷ rest) made all =
    fold_made J agree joined laws items (joined first y) rest (joined_made J agree joined laws items first y made all.0) all.1

fold_has_on : (J : Type 0) (agree : J → J → Type 0) (joined : J → J → J) (laws : Laws J agree joined) (items : List J) → AllAgree agree items
    → (first : J) (rest : List J) → Made J agree items first → AllByRecursion (Made J agree items) rest
    → (other : J) → Made J agree items other → Has J joined first other → Has J joined (fold joined first rest) other
fold_has_on J agree joined laws items agreed first [] made all other other-made has = has
fold_has_on J agree joined laws items agreed first (y ∷ rest) made all other other-made has =
    let near = made_agree J agree joined laws items agreed in
    fold_has_on J agree joined laws items agreed (joined first y) rest (joined_made J agree joined laws items first y made all.0) all.1 other other-made
    (has_onward J agree joined laws first y other (near first y made all.0) (near y other all.0 other-made) (near first other made other-made)
    (near other y other-made all.0) has)

fold_has_rest : (J : Type 0) (agree : J → J → Type 0) (joined : J → J → J) (laws : Laws J agree joined) (items : List J) → AllAgree agree items
    → (first : J) (rest : List J) → Made J agree items first → AllByRecursion (Made J agree items) rest
    → AllByRecursion (Has J joined (fold joined first rest)) rest
fold_has_rest J agree joined laws items agreed first [] made all = tt
fold_has_rest J agree joined laws items agreed first (y ∷ rest) made all =
    let near = made_agree J agree joined laws items agreed first y made all.0 in
    let next = joined_made J agree joined laws items first y made all.0 in (
      fold_has_on J agree joined laws items agreed (joined first y) rest next all.1 y all.0 (has_last J agree joined laws first y near),
      fold_has_rest J agree joined laws items agreed (joined first y) rest next all.1,
    )

-- a join of the items has each of them
fold_has : (J : Type 0) (agree : J → J → Type 0) (joined : J → J → J) (laws : Laws J agree joined) (items : List J) → AllAgree agree items
    → (first : J) (rest : List J) → Made J agree items first → AllByRecursion (Made J agree items) rest
    → AllByRecursion (Has J joined (fold joined first rest)) (first ∷ rest)
fold_has J agree joined laws items agreed first rest made all = (
  fold_has_on J agree joined laws items agreed first rest made all first made (laws.idempotent first),
  fold_has_rest J agree joined laws items agreed first rest made all,
)

-- what has each of them has their join
has_fold : (J : Type 0) (agree : J → J → Type 0) (joined : J → J → J) (laws : Laws J agree joined) (items : List J) → AllAgree agree items
    → (x : J) → Made J agree items x → (first : J) (rest : List J) → Made J agree items first → AllByRecursion (Made J agree items) rest
    → Has J joined x first → AllByRecursion (Has J joined x) rest → Has J joined x (fold joined first rest)
has_fold J agree joined laws items agreed x x-made first [] made all has each = has
has_fold J agree joined laws items agreed x x-made first (y ∷ rest) made all has each =
    let near = made_agree J agree joined laws items agreed in
    let both = sym (laws.associates x first y (near x first x-made made) (near first y made all.0) (near x y x-made all.0))
    ∙ ap (λ found. joined found y) has ∙ each.0 in
    has_fold J agree joined laws items agreed x x-made (joined first y) rest (joined_made J agree joined laws items first y made all.0) all.1 both each.1

-- the items of a list that the first one covers
covered_made : (J : Type 0) (agree : J → J → Type 0) (items others : List J) → HasEach items others → AllByRecursion (Made J agree items) others
covered_made J agree items others covers =
    recursion_from_All (Made J agree items) others (λ k d below. item_made J agree items _ (covers k d below))

covered_has : (J : Type 0) (joined : J → J → J) (items others : List J) → HasEach items others → (x : J)
    → AllByRecursion (Has J joined x) items → AllByRecursion (Has J joined x) others
covered_has J joined items others covers x each =
    recursion_from_All (Has J joined x) others
    (λ k d below. All-contains (Has J joined x) items _ (All-from_recursion (Has J joined x) items each) (covers k d below))

pub order_is_free : (J : Type 0) (agree : J → J → Type 0) (joined : J → J → J) → Laws J agree joined → OrderIsFree agree joined
order_is_free J agree joined laws one other ones others agreed covers covered =
    let items = one ∷ ones in
    let own = covered_made J agree items items (All-contains_itself items) in
    let theirs = covered_made J agree items (other ∷ others) covers in
    let left = fold joined one ones in
    let right = fold joined other others in
    let left-made = fold_made J agree joined laws items one ones own.0 own.1 in
    let right-made = fold_made J agree joined laws items other others theirs.0 theirs.1 in
    let left-has = covered_has J joined items (other ∷ others) covers left (fold_has J agree joined laws items agreed one ones own.0 own.1) in
    let right-has = covered_has J joined (other ∷ others) items covered right (fold_has J agree joined laws items agreed other others theirs.0 theirs.1) in
    let left-right = has_fold J agree joined laws items agreed left left-made other others theirs.0 theirs.1 left-has.0 left-has.1 in
    let right-left = has_fold J agree joined laws items agreed right right-made one ones own.0 own.1 right-has.0 right-has.1 in
    sym left-right ∙ laws.commutes left right (made_agree J agree joined laws items agreed left right left-made right-made) ∙ right-left
