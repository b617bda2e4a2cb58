-- In which order values come, and how often, makes no difference to what they are joined into.
use Rattle.std.specs.Prelude.{List, ◌∷◌, ◌≡◌, fold, All, Contains}

-- each item of the second list is one of the first
abbrev pub HasEach : {J : Type 0} → List J → List J → Type 0
HasEach xs ys = All (Contains xs) ys

-- any two items agree
abbrev pub AllAgree : {J : Type 0} → (J → J → Type 0) → List J → Type 0
AllAgree agree xs = (left right : _) → Contains xs left → Contains xs right → agree left right

-- two lists of the same items, of which any two agree, are joined into one value
abbrev pub OrderIsFree : {J : Type 0} → (J → J → Type 0) → (J → J → J) → Type 0
OrderIsFree {J} agree joined =
    (one other : J) (ones others : List J)
    → AllAgree agree (one ∷ ones) → HasEach (one ∷ ones) (other ∷ others) → HasEach (other ∷ others) (one ∷ ones)
    → fold joined one ones ≡ fold joined other others
