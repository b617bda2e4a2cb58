-- How decisions are made of others, and what a decision says.
use Rattle.std.proofs.Common.{◌≡◌, Option, None, Some, refl, sym, ap, subst}
use Rattle.std.specs.Prelude.{Result, Ok, Err}
use Rattle.std.specs.Result.{result_ok}
use Rattle.dn_name.specs.Exact.{Decided, Exact, IsOnly}

pub one_value : {Value : Type 0} {IsValue : Value → Type 0} (value : Value) → IsValue value → ((other : Value) → IsValue other → other ≡ value) → Decided IsValue
one_value value is only = (Some value, (is, only))

pub no_value : {Value : Type 0} {IsValue : Value → Type 0} → ((other : Value) → IsValue other → ⊥) → Decided IsValue
no_value never = (None, never)

-- Each value has a part: where there is no such part there is no value, and where there is one all values have this part.
pub by_part : {Part Value : Type 0} {IsPart : Part → Type 0} {IsValue : Value → Type 0} → Decided IsPart
    → ((value : Value) → IsValue value → (part : Part) × IsPart part)
    → ((part : Part) → IsPart part → ((other : Part) → IsPart other → other ≡ part) → Decided IsValue) → Decided IsValue
by_part {Part} {Value} {IsPart} {IsValue} decided part_of next = go decided.0 decided.1
  where
    go : (found : Option Part) → IsOnly IsPart found → Decided IsValue
    go None never = no_value (λ value is. never (part_of value is).0 (part_of value is).1)
    go (Some part) is = next part is.0 is.1

-- ---- what a decision says

module _ {Value : Type 0} (IsValue : Value → Type 0) where
  pub only_some : (found : Option Value) → IsOnly IsValue found → (value : Value) → IsValue value → found ≡ Some value
  only_some None only value is = absurd (only value is)
  only_some (Some other) only value is = ap Some (sym (only.1 value is))

  pub only_none : (found : Option Value) → IsOnly IsValue found → ((value : Value) → IsValue value → ⊥) → found ≡ None
  only_none None only never = refl
  only_none (Some value) only never = absurd (never value only.0)

  pub some_is : (found : Option Value) → IsOnly IsValue found → (value : Value) → found ≡ Some value → IsValue value
  some_is found only value e = (subst (IsOnly IsValue) e only).0

  pub none_is : (found : Option Value) → IsOnly IsValue found → found ≡ None → (value : Value) → IsValue value → ⊥
  none_is found only e = subst (IsOnly IsValue) e only

  -- an exact reader gives the value of the decision
  pub exact_found : {Error : Type 0} (result : Result Value Error) (found : Option Value) → Exact IsValue result → IsOnly IsValue found → result_ok result ≡ found
  exact_found (Ok value) found exact only = sym (only_some found only value exact.0)
  exact_found (Err error) found exact only = sym (only_none found only exact)
