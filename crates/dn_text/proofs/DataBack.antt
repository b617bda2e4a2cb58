-- Valid data of any type are read back from their text.
use Rattle.std.proofs.Common.{◌≡◌, ℕ, ◌+◌, true, nat_eq, List, [], ◌∷◌, ◌++◌, length, take, drop, Some, refl, sym, subst, ap, ap₂, ◌∙◌, arith, append_assoc, append-nil, length-take-le, take-append-drop, drop_at}
use Rattle.std.specs.List.{AllByRecursion}
use Rattle.std.proofs.lemmas.Bool.Decides.{nat_tests}
use Rattle.std.proofs.lemmas.List.{length-drop}
use Rattle.dn_rdata.specs.Layout.{AreParts, IsData, IsPart, text_bytes, texts_bytes}
use Rattle.dn_rdata.specs.declared.parts.Part.TheVariants.{Bytes, OneText, Texts}
use Rattle.dn_rdata.specs.declared.parts.Part.TheVariants as parts
use Rattle.dn_text.specs.Laws.{DataAreReadBack, IsString}
use Rattle.dn_text.specs.ReadData.{are_two_strings, formed_data, is_one_string, rdata_of_text, two_strings_of}
use Rattle.dn_text.specs.Rows.{data_text, formed_text}
use Rattle.dn_text.specs.Strings.{strings_of, strings_text}
use Rattle.dn_text.specs.Table.{form_of}
use Rattle.dn_text.specs.declared.table.Field.{Field}
use Rattle.dn_text.specs.declared.table.Field.TheVariants.{Digits, FourBytes, Groups, OneName, Short, Long, Ticks}
use Rattle.dn_text.proofs.FieldsBack.{AreFields, both_small, fields_back}
use Rattle.dn_text.proofs.HexTextLemmas.{AreBytes}
use Rattle.dn_text.proofs.PiecesLemmas.{field_part}
use Rattle.dn_text.proofs.StringsBack.{strings_back}
use Rattle.dn_text.proofs.ValidDataLemmas.{by_type}

-- ---- data in words

-- a part that is a field, in front of fields
one_part : (field : Field) (fields : List Field) (piece back bytes : List ℕ) → bytes ≡ piece ++ back → IsPart (field_part field) piece back → AreFields fields back
    → AreFields (field ∷ fields) bytes
one_part field fields piece back bytes e is more = (piece, back, e, is, more)

-- data of one field
one_field : (field : Field) (bytes : List ℕ) → AreParts (field_part field ∷ []) bytes → AreFields (field ∷ []) bytes
one_field field bytes are = (are.1.0, are.0, are.1.1, are.1.2, are.2)

-- a number in front of others: a part of more bytes is a field of these and a part of the rest
one_number : (field : Field) (fields : List Field) (size count : ℕ) (piece back bytes : List ℕ) → ((front behind : List ℕ) → length front ≡ size → IsPart (field_part field) front behind)
    → bytes ≡ piece ++ back → length piece ≡ size + count → ((rest : List ℕ) → length rest ≡ count → AreFields fields (rest ++ back)) → AreFields (field ∷ fields) bytes
one_number field fields size count piece back bytes is_part e is more = (
  take size piece,
  drop size piece ++ back,
  e ∙ ap (λ (it : List ℕ). it ++ back) (sym (take-append-drop size piece)) ∙ append_assoc (take size piece) (drop size piece) back,
  is_part (take size piece) (drop size piece ++ back) (length-take-le size piece (omega arith)),
  more (drop size piece) (omega (arith, length-drop size piece)),
)

nothing : (rest : List ℕ) → length rest ≡ 0 → rest ≡ []
nothing [] none = refl
nothing (byte ∷ rest) none = absurd (omega arith)

-- nothing is left in front of fields
at_last : (fields : List Field) (rest back : List ℕ) → length rest ≡ 0 → AreFields fields back → AreFields fields (rest ++ back)
at_last fields rest back none are = subst (λ (it : List ℕ). AreFields fields (it ++ back)) (sym (nothing rest none)) are

-- a number and a name
exchange : (bytes : List ℕ) → AreParts (Bytes 2 ∷ parts.OneName ∷ []) bytes → AreFields (Short ∷ OneName ∷ []) bytes
exchange bytes are = (are.1.0, are.0, are.1.1, are.1.2, one_field OneName are.0 are.2)

-- three numbers and a name
service : (bytes : List ℕ) → AreParts (Bytes 6 ∷ parts.OneName ∷ []) bytes → AreFields (Short ∷ Short ∷ Short ∷ OneName ∷ []) bytes
service bytes are =
    let back : List ℕ = are.0 in
    one_number Short (Short ∷ Short ∷ OneName ∷ []) 2 4 are.1.0 back bytes (λ front behind is. is) are.1.1 are.1.2 (λ second second_is.
    one_number Short (Short ∷ OneName ∷ []) 2 2 second back (second ++ back) (λ front behind is. is) refl second_is (λ third third_is.
    one_number Short (OneName ∷ []) 2 0 third back (third ++ back) (λ front behind is. is) refl third_is (λ rest none.
    at_last (OneName ∷ []) rest back none (one_field OneName back are.2))))

-- five numbers
five_numbers : (piece back bytes : List ℕ) → bytes ≡ piece ++ back → length piece ≡ 20 → back ≡ [] → AreFields (Long ∷ Long ∷ Long ∷ Long ∷ Long ∷ []) bytes
five_numbers piece back bytes e is none =
    one_number Long (Long ∷ Long ∷ Long ∷ Long ∷ []) 4 16 piece back bytes (λ front behind size. size) e is (λ second second_is.
    one_number Long (Long ∷ Long ∷ Long ∷ []) 4 12 second back (second ++ back) (λ front behind size. size) refl second_is (λ third third_is.
    one_number Long (Long ∷ Long ∷ []) 4 8 third back (third ++ back) (λ front behind size. size) refl third_is (λ fourth fourth_is.
    one_number Long (Long ∷ []) 4 4 fourth back (fourth ++ back) (λ front behind size. size) refl fourth_is (λ fifth fifth_is.
    one_number Long [] 4 0 fifth back (fifth ++ back) (λ front behind size. size) refl fifth_is (λ rest empty. at_last [] rest back empty none)))))

-- two names and five numbers
start : (bytes : List ℕ) → AreParts (parts.OneName ∷ parts.OneName ∷ Bytes 20 ∷ []) bytes → AreFields (OneName ∷ OneName ∷ Long ∷ Long ∷ Long ∷ Long ∷ Long ∷ []) bytes
start bytes are =
    let mailbox : AreParts (parts.OneName ∷ Bytes 20 ∷ []) are.0 = are.2 in
    let numbers : AreParts (Bytes 20 ∷ []) mailbox.0 = mailbox.2 in (
      are.1.0,
      are.0,
      are.1.1,
      are.1.2,
      (mailbox.1.0, mailbox.0, mailbox.1.1, mailbox.1.2, five_numbers numbers.1.0 numbers.0 mailbox.0 numbers.1.1 numbers.1.2 numbers.2),
    )

-- ---- data in strings

are_strings : (texts : List (List ℕ)) → AreBytes (texts_bytes texts) → AllByRecursion IsString texts
are_strings [] small = tt
are_strings (text ∷ texts) small = let both = both_small text (texts_bytes texts) small.1 in ((omega (arith, small.0), both.0), are_strings texts both.1)

some_strings : (text : List ℕ) (texts : List (List ℕ)) (bytes : List ℕ) → bytes ≡ texts_bytes (text ∷ texts) → AreBytes bytes → strings_of (strings_text bytes) ≡ Some bytes
some_strings text texts bytes e small =
    subst (λ (it : List ℕ). strings_of (strings_text it) ≡ Some it) (sym e) (strings_back text texts (are_strings (text ∷ texts) (subst AreBytes e small)))

texts_back : (bytes : List ℕ) → AreParts (Texts ∷ []) bytes → AreBytes bytes → strings_of (strings_text bytes) ≡ Some bytes
texts_back bytes are small =
    let is = are.1.2 in some_strings is.0 is.1 bytes (are.1.1 ∙ ap₂ (λ (a b : List ℕ). a ++ b) is.2 are.2 ∙ append-nil (texts_bytes (is.0 ∷ is.1))) small

itself : (n : ℕ) → nat_eq n n ≡ true
itself n = grind (arith, nat_tests)

one_string : (text : List ℕ) → is_one_string (texts_bytes (text ∷ [])) ≡ true
one_string text = ap (λ (it : List ℕ). nat_eq (length text) (length it)) (append-nil text) ∙ itself (length text)

two_are : (first second : List ℕ) → are_two_strings (texts_bytes (first ∷ second ∷ [])) ≡ true
two_are first second = ap is_one_string (drop_at first (texts_bytes (second ∷ [])) (length first) refl) ∙ one_string second

two_found : (text bytes : List ℕ) → strings_of text ≡ Some bytes → are_two_strings bytes ≡ true → two_strings_of text ≡ Some bytes
unfolding two_strings_of
two_found text bytes found are = rw (found, are) refl

two_joined : (bytes a b back behind first second : List ℕ) → bytes ≡ a ++ back → a ≡ text_bytes first → back ≡ b ++ behind → b ≡ text_bytes second → behind ≡ []
    → bytes ≡ texts_bytes (first ∷ second ∷ [])
two_joined bytes a b back behind first second e is_first more is_second none = rw (e, is_first, more, is_second, none) refl

two_back : (bytes : List ℕ) → AreParts (OneText ∷ OneText ∷ []) bytes → AreBytes bytes → two_strings_of (strings_text bytes) ≡ Some bytes
two_back bytes are small =
    let last : AreParts (OneText ∷ []) are.0 = are.2 in
    let e = two_joined bytes are.1.0 last.1.0 are.0 last.0 are.1.2.0 last.1.2.0 are.1.1 are.1.2.1 last.1.1 last.1.2.1 last.2 in
    two_found (strings_text bytes) bytes (some_strings are.1.2.0 (last.1.2.0 ∷ []) bytes e small) (ap are_two_strings e ∙ two_are are.1.2.0 last.1.2.0)

-- ---- data of each type

-- valid data of this type are read back
abbrev IsBack : ℕ → Type 0
IsBack rtype = (rdata : List ℕ) → AreBytes rdata → IsData rtype rdata → formed_data (form_of rtype) (formed_text (form_of rtype) rdata) ≡ Some rdata

each_back : (rtype : ℕ) → IsBack rtype
unfolding form_of formed_data formed_text
each_back rtype =
    by_type IsBack rtype 0 (λ rdata small is. fields_back Ticks [] rdata (one_field Ticks rdata is) small) (λ not0.
    by_type IsBack rtype 1 (λ rdata small is. fields_back FourBytes [] rdata (one_field FourBytes rdata is) small) (λ not1.
    by_type IsBack rtype 2 (λ rdata small is. fields_back OneName [] rdata (one_field OneName rdata is) small) (λ not2.
    by_type IsBack rtype 5 (λ rdata small is. fields_back OneName [] rdata (one_field OneName rdata is) small) (λ not5.
    by_type IsBack rtype 6 (λ rdata small is. fields_back OneName (OneName ∷ Long ∷ Long ∷ Long ∷ Long ∷ Long ∷ []) rdata (start rdata is) small) (λ not6.
    by_type IsBack rtype 12 (λ rdata small is. fields_back OneName [] rdata (one_field OneName rdata is) small) (λ not12.
    by_type IsBack rtype 13 (λ rdata small is. two_back rdata is small) (λ not13.
    by_type IsBack rtype 15 (λ rdata small is. fields_back Short (OneName ∷ []) rdata (exchange rdata is) small) (λ not15.
    by_type IsBack rtype 16 (λ rdata small is. texts_back rdata is small) (λ not16.
    by_type IsBack rtype 28 (λ rdata small is. fields_back Groups [] rdata (one_field Groups rdata is) small) (λ not28.
    by_type IsBack rtype 33 (λ rdata small is. fields_back Short (Short ∷ Short ∷ OneName ∷ []) rdata (service rdata is) small) (λ not33.
    by_type IsBack rtype 49 (λ rdata small is. fields_back Digits [] rdata (one_field Digits rdata is) small) (λ not49.
    rw (not0, not1, not2, not5, not6, not12, not13, not15, not16, not28, not33, not49) (λ rdata small is. fields_back Digits [] rdata (one_field Digits rdata is) small)))))))))))))

-- valid data of any type are read back from their text
pub data_read_back : DataAreReadBack
unfolding rdata_of_text data_text
data_read_back rtype rdata small is = each_back rtype rdata small is
