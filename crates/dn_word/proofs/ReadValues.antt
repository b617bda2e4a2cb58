-- What a word that was read is: a name, a number within its bound, an address of four bytes.
use Rattle.std.proofs.Common.{◌≡◌, ℕ, ◌≤◌, Bool, true, false, cond, ◌&&◌, List, [], ◌∷◌, length, nat_eq, nat_le, Option, None, Some, refl, subst, ◌∙◌, arith}
use Rattle.std.proofs.lemmas.Bool.{and_parts, eqb-true, leb-true}
use Rattle.std.specs.List.{AllByRecursion, list_all, slice_split}
use Rattle.std.specs.Option.{option_and_then}
use lib.Pointwise.{pointwise}
use Rattle.dn_io.specs.Options.{◌>>=◌}
use Rattle.dn_name.specs.Name.{IsLabel, IsName, Labels, is_label, is_name, wire_len}
use Rattle.dn_name.specs.Text.{Outside, Symbol, labels_between, name_if, symbols_from, without_last_empty}
use Rattle.dn_word.specs.Addresses.{address_of, all_within}
use Rattle.dn_word.specs.Names.{name_word}
use Rattle.dn_word.specs.Numbers.{is_digit, no_leading_zero, number_within, value_behind}

-- ---- a value that was read by steps

-- what holds of each value that the rest gives holds of the value that is given
pub bound : {A B : Type 0} (P : B → Type 0) (found : Option A) (go_on : A → Option B) → ((value : A) → found ≡ Some value → (given : B) → go_on value ≡ Some given → P given)
    → (given : B) → (found >>= go_on) ≡ Some given → P given
bound P None go_on holds given is = absurd (cc)
bound P (Some value) go_on holds given is = holds value refl given is

-- the same of a choice
pub chosen : {B : Type 0} (P : B → Type 0) (test : Bool) (one other : Option B) → ((given : B) → one ≡ Some given → P given) → ((given : B) → other ≡ Some given → P given)
    → (given : B) → cond test one other ≡ Some given → P given
chosen P true one other first second given is = first given is
chosen P false one other first second given is = second given is

pub given_is : {B : Type 0} (P : B → Type 0) (value given : B) → P value → Some value ≡ Some given → P given
given_is P value given holds is = let e : value ≡ given = cc in subst P e holds

-- ---- names

labels_are : (name : Labels) → list_all is_label name ≡ true → AllByRecursion IsLabel name
labels_are [] is = tt
labels_are (label ∷ name) is =
    let parts = and_parts (is_label label) (list_all is_label name) is in
    let lengths = and_parts _ _ parts.0 in
    ((leb-true _ _ lengths.0, leb-true _ _ lengths.1), labels_are name parts.1)

pub is_a_name : (name : Labels) → is_name name ≡ true → IsName name
is_a_name name is =
    let parts = and_parts (list_all is_label name) (nat_le (wire_len name) 255) is in
    (labels_are name parts.0, leb-true (wire_len name) 255 parts.1)

if_name : (labels name : Labels) (is : Bool) → is_name labels ≡ is → cond is (Some labels) None ≡ Some name → IsName name
if_name labels name true is given = given_is IsName labels name (is_a_name labels is) given
if_name labels name false is given = absurd (cc)

made_name : (labels name : Labels) → name_if labels ≡ Some name → IsName name
made_name [] name is = absurd (cc)
made_name (label ∷ labels) name is = if_name (label ∷ labels) name (is_name (label ∷ labels)) refl is

from_symbols : (symbols : Option (List Symbol)) (name : Labels) → option_and_then (λ some. name_if (without_last_empty (labels_between some))) symbols ≡ Some name → IsName name
from_symbols None name is = absurd (cc)
from_symbols (Some symbols) name is = made_name (without_last_empty (labels_between symbols)) name is

root_is : IsName []
root_is = (tt, omega arith)

text_name : (root : Bool) (symbols : Option (List Symbol)) (name : Labels)
    → cond root (Some []) (option_and_then (λ some. name_if (without_last_empty (labels_between some))) symbols) ≡ Some name → IsName name
text_name true symbols name is = given_is IsName [] name root_is is
text_name false symbols name is = from_symbols symbols name is

-- a word that is read as a name is one
pub name_is_name : (word : List ℕ) (name : Labels) → name_word word ≡ Some name → IsName name
unfolding name_word
name_is_name word name is = text_name (pointwise nat_eq word (46 ∷ [])) (symbols_from Outside word) name is

-- ---- numbers

within_by : (most value number : ℕ) (digits fits : Bool) → nat_le value most ≡ fits → cond (digits && fits) (Some value) None ≡ Some number → number ≤ most
within_by most value number true true is given = given_is (λ it. it ≤ most) value number (leb-true value most is) given
within_by most value number true false is given = absurd (cc)
within_by most value number false fits is given = absurd (cc)

-- a number that is read is within its bound
pub number_is_within : (most : ℕ) (word : List ℕ) (number : ℕ) → number_within most word ≡ Some number → number ≤ most
unfolding number_within
number_is_within most word number is =
    within_by most (value_behind 0 word) number (list_all is_digit word && no_leading_zero word) (nat_le (value_behind 0 word) most) refl is

-- ---- addresses

-- where each word is a number, there are as many numbers
as_many : (most : ℕ) (words : List (List ℕ)) (numbers : List ℕ) → all_within most words ≡ Some numbers → length numbers ≡ length words
unfolding all_within
as_many most [] numbers is = given_is (λ (it : List ℕ). length it ≡ 0) [] numbers refl is
as_many most (word ∷ words) numbers is =
    let Many : List ℕ → Type 0 = λ it. length it ≡ length (word ∷ words) in
    bound Many (number_within most word) _
    (λ first there. bound Many (all_within most words) _
    (λ rest read all given. given_is Many (first ∷ rest) all (omega (arith, as_many most words rest read)) given)) numbers is

four_by : (four : Bool) (parts : List (List ℕ)) (address : List ℕ) → nat_eq (length parts) 4 ≡ four → cond four (all_within 255 parts) None ≡ Some address → length address ≡ 4
four_by true parts address is given = as_many 255 parts address given ∙ eqb-true (length parts) 4 is
four_by false parts address is given = absurd (cc)

-- an address that is read has four bytes
pub address_is_four : (word address : List ℕ) → address_of word ≡ Some address → length address ≡ 4
unfolding address_of
address_is_four word address is =
    let parts : List (List ℕ) = slice_split (λ byte. nat_eq byte 46) word in four_by (nat_eq (length parts) 4) parts address refl is
