-- What is read of a field is a part of data, and fields one behind another are their parts.
use Rattle.std.proofs.Common.{◌≡◌, ℕ, ◌+◌, ◌-◌, ◌^◌, ◌≤◌, Bool, true, false, cond, nat_eq, nat_le, List, [], ◌∷◌, ◌++◌, length, take, drop, replicate, Option, None, Some, option_map, refl, sym, subst, ◌∙◌, arith, append_assoc, append-nil, length-append}
use Rattle.std.proofs.lemmas.Bool.{eqb-true, leb-true}
use Rattle.std.proofs.lemmas.List.{length-replicate}
use Rattle.std.specs.Int.{w16, w32, w64, to_be_bytes, to_le_bytes}
use Rattle.dn_name.specs.Name.{IsName, Labels, wire_of}
use Rattle.dn_rdata.specs.Layout.{IsPart}
use Rattle.dn_rdata.specs.declared.parts.Part.{Part}
use Rattle.dn_rdata.specs.declared.parts.Part.TheVariants.{Bytes, Rest}
use Rattle.dn_rdata.specs.declared.parts.Part.TheVariants as parts
use Rattle.dn_text.specs.Fields.{field_of, fields_from, long_of, short_of, ticks_of, wire_word}
use Rattle.dn_text.specs.LongAddresses.{cut_groups, double_from, filled, groups_around, groups_of, long_address_of, whole_groups}
use Rattle.dn_word.specs.Names.{name_word}
use Rattle.dn_word.specs.Numbers.{number_within}
use Rattle.dn_text.specs.declared.table.Field.{Field}
use Rattle.dn_text.specs.declared.table.Field.TheVariants.{Digits, FourBytes, Groups, OneName, Short, Long, Ticks}
use Rattle.dn_word.proofs.CallerLemmas.{address_is_four, bound, given_is, name_is_name}

-- the part of data that a field is
abbrev pub field_part : Field → Part
field_part Ticks = Bytes 8
field_part FourBytes = Bytes 4
field_part Groups = Bytes 16
field_part OneName = parts.OneName
field_part Short = Bytes 2
field_part Long = Bytes 4
field_part Digits = Rest

-- ---- one field

mapped : {A B : Type 0} (P : B → Type 0) (change : A → B) (found : Option A) → ((value : A) → found ≡ Some value → P (change value)) → (given : B) → option_map change found ≡ Some given → P given
mapped P change None holds given is = absurd (cc)
mapped P change (Some value) holds given is = given_is P (change value) given (holds value refl) is

ticks_are : (word piece : List ℕ) → ticks_of word ≡ Some piece → length piece ≡ 8
unfolding ticks_of
ticks_are word piece is = mapped (λ (it : List ℕ). length it ≡ 8) (λ ticks. to_le_bytes w64 ticks) (number_within (2 ^ 64 - 1) word) (λ value there. refl) piece is

short_is : (word piece : List ℕ) → short_of word ≡ Some piece → length piece ≡ 2
unfolding short_of
short_is word piece is = mapped (λ (it : List ℕ). length it ≡ 2) (λ number. to_be_bytes w16 number) (number_within (2 ^ 16 - 1) word) (λ value there. refl) piece is

long_is : (word piece : List ℕ) → long_of word ≡ Some piece → length piece ≡ 4
unfolding long_of
long_is word piece is = mapped (λ (it : List ℕ). length it ≡ 4) (λ number. to_be_bytes w32 number) (number_within (2 ^ 32 - 1) word) (λ value there. refl) piece is

abbrev IsWireName : List ℕ → Type 0
IsWireName piece = (name : Labels) × IsName name × (piece ≡ wire_of name)

wire_is : (word piece : List ℕ) → wire_word word ≡ Some piece → IsWireName piece
unfolding wire_word
wire_is word piece is = mapped IsWireName (λ name. wire_of name) (name_word word) (λ name there. (name, name_is_name word name there, refl)) piece is

-- ---- addresses of IPv6

abbrev pub Sixteen : List ℕ → Type 0
Sixteen bytes = length bytes ≡ 16

whole_by : (groups bytes : List ℕ) (are : Bool) → nat_eq (length groups) 16 ≡ are → cond are (Some groups) None ≡ Some bytes → Sixteen bytes
whole_by groups bytes true is given = given_is Sixteen groups bytes (eqb-true (length groups) 16 is) given
whole_by groups bytes false is given = absurd (cc)

whole_are : (word bytes : List ℕ) → whole_groups word ≡ Some bytes → Sixteen bytes
unfolding whole_groups
whole_are word bytes is = bound Sixteen (groups_of word) _ (λ groups there given made. whole_by groups given (nat_eq (length groups) 16) refl made) bytes is

sized : (front zeros back : List ℕ) (n : ℕ) → length zeros ≡ 16 - n → n ≡ length front + length back → n ≤ 14 → Sixteen (front ++ (zeros ++ back))
sized front zeros back n size e fits = omega (arith, length-append front (zeros ++ back), length-append zeros back, size, e, fits)

filled_size : (front back : List ℕ) → length front + length back ≤ 14 → Sixteen (front ++ (replicate (16 - (length front + length back)) 0 ++ back))
filled_size front back fits =
    sized front (replicate (16 - (length front + length back)) 0) back (length front + length back) (length-replicate {A = ℕ} (16 - (length front + length back)) 0) refl fits

filled_by : (front back bytes : List ℕ) (fits : Bool) → nat_le (length front + length back) 14 ≡ fits
    → cond fits (Some (front ++ (replicate (16 - (length front + length back)) 0 ++ back))) None ≡ Some bytes → Sixteen bytes
filled_by front back bytes true is given = given_is Sixteen _ bytes (filled_size front back (leb-true (length front + length back) 14 is)) given
filled_by front back bytes false is given = absurd (cc)

filled_are : (front back bytes : List ℕ) → filled front back ≡ Some bytes → Sixteen bytes
unfolding filled
filled_are front back bytes is = filled_by front back bytes (nat_le (length front + length back) 14) refl is

cut_are : (before behind bytes : List ℕ) → cut_groups before behind ≡ Some bytes → Sixteen bytes
unfolding cut_groups
cut_are before behind bytes is =
    bound Sixteen (groups_of before) _ (λ front there made more. bound Sixteen (groups_of behind) _ (λ back found given last. filled_are front back given last) made more) bytes is

around : (word bytes : List ℕ) (place : Option ℕ) → groups_around word place ≡ Some bytes → Sixteen bytes
around word bytes None is = whole_are word bytes is
around word bytes (Some place) is = cut_are (take (place - 1) word) (drop (place + 1) word) bytes is

pub long_address_is : (word bytes : List ℕ) → long_address_of word ≡ Some bytes → Sixteen bytes
unfolding long_address_of
long_address_is word bytes is = around word bytes (double_from 0 false word) is

-- ---- any field

field_is : (field : Field) (word piece : List ℕ) → field_of field word ≡ Some piece → IsPart (field_part field) piece []
unfolding field_of
field_is Ticks word piece is = ticks_are word piece is
field_is FourBytes word piece is = address_is_four word piece is
field_is Groups word piece is = long_address_is word piece is
field_is OneName word piece is = wire_is word piece is
field_is Short word piece is = short_is word piece is
field_is Long word piece is = long_is word piece is
field_is Digits word piece is = refl

-- pieces of these fields, one behind another
abbrev pub ArePieces : List Field → List ℕ → Type 0
ArePieces [] bytes = bytes ≡ []
ArePieces (field ∷ fields) bytes = (piece back : List ℕ) × IsPart (field_part field) piece [] × (bytes ≡ piece ++ back) × ArePieces fields back

abbrev AddsPieces : List ℕ → List Field → List ℕ → Type 0
AddsPieces done fields all = (bytes : List ℕ) × (all ≡ done ++ bytes) × ArePieces fields bytes

adds_piece : (done : List ℕ) (field : Field) (fields : List Field) (piece all : List ℕ) → IsPart (field_part field) piece [] → AddsPieces (done ++ piece) fields all → AddsPieces done (field ∷ fields) all
adds_piece done field fields piece all is more =
    (piece ++ more.0, more.1 ∙ append_assoc done piece more.0, (piece, more.0, is, refl, more.2))

from_words : (done : List ℕ) (fields : List Field) (words : List (List ℕ)) (all : List ℕ) → fields_from done fields words ≡ Some all → AddsPieces done fields all
unfolding fields_from
from_words done [] [] all is = given_is (AddsPieces done []) done all ([], sym (append-nil done), refl) is
from_words done [] (word ∷ words) all is = absurd (cc)
from_words done (field ∷ fields) [] all is = absurd (cc)
from_words done (field ∷ fields) (word ∷ words) all is =
    bound (AddsPieces done (field ∷ fields)) (field_of field word) _
    (λ piece there given more. adds_piece done field fields piece given (field_is field word piece there) (from_words (done ++ piece) fields words given more)) all is

-- what is read of words are pieces of their fields
pub pieces_read : (fields : List Field) (words : List (List ℕ)) (all : List ℕ) → fields_from [] fields words ≡ Some all → ArePieces fields all
pieces_read fields words all is = let added = from_words [] fields words all is in subst (ArePieces fields) (sym added.1) added.2
