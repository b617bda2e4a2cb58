-- What is read of strings in double quotes are one or more strings, each behind its length byte.
use Rattle.std.proofs.Common.{◌≡◌, ℕ, ◌-◌, Bool, true, false, cond, ◌&&◌, ◌||◌, nat_eq, nat_le, List, [], ◌∷◌, ◌++◌, length, Option, None, Some, option_map, refl, sym, ap, ◌∙◌, append_assoc, append-nil}
use Rattle.dn_rdata.specs.Layout.{text_bytes, texts_bytes}
use Rattle.dn_word.specs.Numbers.{is_digit}
use Rattle.dn_text.specs.Strings.{at_end, strings_from, strings_of, turn_at, turned, with_digit}
use Rattle.dn_word.specs.Words.{is_blank}
use Rattle.dn_text.specs.declared.quoted.Place.{Place}
use Rattle.dn_text.specs.declared.quoted.Place.TheVariants.{Start, Inside, Escaped, OneDigit, TwoDigits, Behind}
use Rattle.dn_text.specs.declared.quoted.Turn.{Turn}
use Rattle.dn_text.specs.declared.quoted.Turn.TheVariants.{Goes, Spells, Ends}
use Rattle.dn_word.proofs.CallerLemmas.{given_is}

-- one string or more
abbrev pub AreSome : List ℕ → Type 0
AreSome bytes = (text : List ℕ) × (texts : List (List ℕ)) × (bytes ≡ texts_bytes (text ∷ texts))

-- no string or more
abbrev AreAny : List ℕ → Type 0
AreAny bytes = (texts : List (List ℕ)) × (bytes ≡ texts_bytes texts)

-- behind a string there is one at least
abbrev Closed : Place → List ℕ → Type 0
Closed Behind done = AreSome done
Closed other done = AreAny done

any_of : (place : Place) (done : List ℕ) → Closed place done → AreAny done
any_of Start done are = are
any_of Inside done are = are
any_of Escaped done are = are
any_of (OneDigit number) done are = are
any_of (TwoDigits number) done are = are
any_of Behind done are = (are.0 ∷ are.1, are.2)

texts_append : (texts more : List (List ℕ)) → texts_bytes (texts ++ more) ≡ texts_bytes texts ++ texts_bytes more
texts_append [] more = refl
texts_append (text ∷ texts) more = ap (λ xs. text_bytes text ++ xs) (texts_append texts more) ∙ sym (append_assoc (text_bytes text) (texts_bytes texts) (texts_bytes more))

one_behind : (done text : List ℕ) (texts : List (List ℕ)) → done ≡ texts_bytes texts → AreSome (done ++ text_bytes text)
one_behind done text [] e = (text, [], ap (λ xs. xs ++ text_bytes text) e ∙ sym (append-nil (text_bytes text)))
one_behind done text (first ∷ texts) e =
    (first, texts ++ (text ∷ []), ap (λ xs. xs ++ text_bytes text) e ∙ ap (λ xs. texts_bytes (first ∷ texts) ++ xs) (sym (append-nil (text_bytes text))) ∙ sym (texts_append (first ∷ texts) (text ∷ [])))

one_more : (done text : List ℕ) → AreAny done → AreSome (done ++ text_bytes text)
one_more done text are = one_behind done text are.0 are.1

-- no turn goes behind a string: only its end does
abbrev Stays : Option Turn → Type 0
Stays None = Unit {0}
Stays (Some (Goes Behind)) = ⊥
Stays (Some other) = Unit {0}

stays_by : (test : Bool) (one other : Option Turn) → Stays one → Stays other → Stays (cond test one other)
stays_by true one other first second = first
stays_by false one other first second = second

one_digit : (found : Option ℕ) → Stays (option_map (λ both. Goes (TwoDigits both)) found)
one_digit None = tt
one_digit (Some both) = tt

two_digits : (found : Option ℕ) → Stays (option_map Spells found)
two_digits None = tt
two_digits (Some both) = tt

stays : (place : Place) (byte : ℕ) → Stays (turn_at place byte)
unfolding turn_at
stays Start byte = stays_by (nat_eq byte 34) (Some (Goes Inside)) None tt tt
stays Inside byte =
    let plain : Option Turn = cond (is_blank byte || (nat_le 33 byte && nat_le byte 126)) (Some (Spells byte)) None in
    stays_by (nat_eq byte 34) (Some Ends) (cond (nat_eq byte 92) (Some (Goes Escaped)) plain) tt (stays_by (nat_eq byte 92) (Some (Goes Escaped)) plain tt
    (stays_by (is_blank byte || (nat_le 33 byte && nat_le byte 126)) (Some (Spells byte)) None tt tt))
stays Escaped byte =
    stays_by (is_digit byte) (Some (Goes (OneDigit (byte - 48)))) (cond (nat_le 32 byte && nat_le byte 126) (Some (Spells byte)) None) tt
    (stays_by (nat_le 32 byte && nat_le byte 126) (Some (Spells byte)) None tt tt)
stays (OneDigit number) byte = one_digit (with_digit number byte)
stays (TwoDigits number) byte = two_digits (with_digit number byte)
stays Behind byte = stays_by (nat_eq byte 32) (Some (Goes Start)) None tt tt

at_place : (place : Place) (done bytes : List ℕ) → Closed place done → at_end place done ≡ Some bytes → AreSome bytes
at_place Start done bytes are is = absurd (cc)
at_place Inside done bytes are is = absurd (cc)
at_place Escaped done bytes are is = absurd (cc)
at_place (OneDigit number) done bytes are is = absurd (cc)
at_place (TwoDigits number) done bytes are is = absurd (cc)
at_place Behind done bytes are is = given_is AreSome done bytes are is

-- where a turn goes on to
goes_to : (next : Place) (done : List ℕ) → Stays (Some (Goes next)) → AreAny done → Closed next done
goes_to Start done stay are = are
goes_to Inside done stay are = are
goes_to Escaped done stay are = are
goes_to (OneDigit number) done stay are = are
goes_to (TwoDigits number) done stay are = are
goes_to Behind done stay are = absurd stay

ended : (fits : Bool) (rest : Option (List ℕ)) (bytes : List ℕ) → (rest ≡ Some bytes → AreSome bytes) → cond fits rest None ≡ Some bytes → AreSome bytes
ended true rest bytes holds is = holds is
ended false rest bytes holds is = absurd (cc)

by_turn : (turn : Option Turn) (done begun : List ℕ) (go_on : Place → List ℕ → List ℕ → Option (List ℕ)) (bytes : List ℕ) → Stays turn → AreAny done
    → ((next : Place) (closed string : List ℕ) → Closed next closed → go_on next closed string ≡ Some bytes → AreSome bytes)
    → turned turn done begun go_on ≡ Some bytes → AreSome bytes
by_turn None done begun go_on bytes stay are more is = absurd (cc)
by_turn (Some (Goes next)) done begun go_on bytes stay are more is = more next done begun (goes_to next done stay are) is
by_turn (Some (Spells byte)) done begun go_on bytes stay are more is = more Inside done (begun ++ byte ∷ []) are is
by_turn (Some Ends) done begun go_on bytes stay are more is =
    ended (nat_le (length begun) 255) (go_on Behind (done ++ text_bytes begun) []) bytes (λ made. more Behind (done ++ text_bytes begun) [] (one_more done begun are) made) is

from_place : (place : Place) (done begun text bytes : List ℕ) → Closed place done → strings_from place done begun text ≡ Some bytes → AreSome bytes
unfolding strings_from
from_place place done begun [] bytes are is = at_place place done bytes are is
from_place place done begun (byte ∷ text) bytes are is =
    by_turn (turn_at place byte) done begun (λ next closed string. strings_from next closed string text) bytes (stays place byte) (any_of place done are)
    (λ next closed string are_closed made. from_place next closed string text bytes are_closed made) is

-- a text of strings has one or more
pub strings_read : (text bytes : List ℕ) → strings_of text ≡ Some bytes → AreSome bytes
unfolding strings_of
strings_read text bytes is = from_place Start [] [] text bytes ([], refl) is
