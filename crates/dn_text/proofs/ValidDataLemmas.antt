-- What is read of a text are valid data of its type.
use Rattle.std.proofs.Common.{◌≡◌, ℕ, ◌+◌, ◌≤◌, Bool, true, false, cond, nat_eq, List, [], ◌∷◌, ◌++◌, length, take, drop, None, Some, inl, inr, refl, sym, subst, ap, ap₂, ◌∙◌, arith, append_assoc, append-nil, length-append, length-take-le, take-append-drop}
use Rattle.std.specs.List.{slice_split}
use Rattle.std.proofs.lemmas.Bool.{cases_Bool, eqb-true}
use Rattle.std.proofs.lemmas.Bool.Decides.{nat_tests}
use Rattle.std.proofs.lemmas.List.{length-drop}
use Rattle.dn_rdata.specs.Layout.{AreParts, IsData, IsPart, text_bytes}
use Rattle.dn_rdata.specs.declared.parts.Part.TheVariants.{Bytes, OneText, Texts}
use Rattle.dn_rdata.specs.declared.parts.Part.TheVariants as parts
use Rattle.dn_text.specs.Fields.{fields_of}
use Rattle.dn_text.specs.ReadData.{are_two_strings, formed_data, is_one_string, rdata_of_text, two_strings_of}
use Rattle.dn_text.specs.Strings.{strings_of}
use Rattle.dn_text.specs.Table.{form_of}
use Rattle.dn_text.specs.declared.table.Field.{Field}
use Rattle.dn_text.specs.declared.table.Field.TheVariants.{Digits, FourBytes, Groups, OneName, Short, Long, Ticks}
use Rattle.dn_text.proofs.PiecesLemmas.{ArePieces, field_part, pieces_read}
use Rattle.dn_text.proofs.QuotedStringsLemmas.{strings_read}
use Rattle.dn_word.proofs.CallerLemmas.{bound, given_is}

-- ---- data in words

-- data of one field
one_field : (field : Field) (bytes : List ℕ) → ArePieces (field ∷ []) bytes → AreParts (field_part field ∷ []) bytes
one_field field bytes are = (are.1, (are.0, are.3, subst (λ behind. IsPart (field_part field) are.0 behind) (sym are.4) are.2), are.4)

-- a number and a name
exchange : (bytes : List ℕ) → ArePieces (Short ∷ (OneName ∷ [])) bytes → AreParts (Bytes 2 ∷ (parts.OneName ∷ [])) bytes
exchange bytes are = (are.1, (are.0, are.3, are.2), one_field OneName are.1 are.4)

three_joined : (bytes a b c back_a back_b back_c : List ℕ) → bytes ≡ a ++ back_a → back_a ≡ b ++ back_b → back_b ≡ c ++ back_c → bytes ≡ (a ++ (b ++ c)) ++ back_c
three_joined bytes a b c back_a back_b back_c e_a e_b e_c =
    e_a ∙ ap (λ xs. a ++ xs) (e_b ∙ ap (λ xs. b ++ xs) e_c ∙ sym (append_assoc b c back_c)) ∙ sym (append_assoc a (b ++ c) back_c)

three_size : (a b c : List ℕ) → length a ≡ 2 → length b ≡ 2 → length c ≡ 2 → length (a ++ (b ++ c)) ≡ 6
three_size a b c is_a is_b is_c = omega (arith, length-append a (b ++ c), length-append b c, is_a, is_b, is_c)

-- three numbers and a name
service : (bytes : List ℕ) → ArePieces (Short ∷ (Short ∷ (Short ∷ (OneName ∷ [])))) bytes → AreParts (Bytes 6 ∷ (parts.OneName ∷ [])) bytes
service bytes are =
    let second : ArePieces (Short ∷ (Short ∷ (OneName ∷ []))) are.1 = are.4 in
    let third : ArePieces (Short ∷ (OneName ∷ [])) second.1 = second.4 in (
      third.1,
      (
        are.0 ++ (second.0 ++ third.0),
        three_joined bytes are.0 second.0 third.0 are.1 second.1 third.1 are.3 second.3 third.3,
        three_size are.0 second.0 third.0 are.2 second.2 third.2,
      ),
      one_field OneName third.1 third.4,
    )

-- one number of four bytes more
one_longer : (count : ℕ) (bytes piece back : List ℕ) → length piece ≡ 4 → bytes ≡ piece ++ back → length back ≡ count → length bytes ≡ 4 + count
one_longer count bytes piece back is e more = ap length e ∙ length-append piece back ∙ omega (arith, is, more)

-- five of them
five_numbers : (bytes : List ℕ) → ArePieces (Long ∷ (Long ∷ (Long ∷ (Long ∷ (Long ∷ []))))) bytes → length bytes ≡ 20
five_numbers bytes first =
    let second : ArePieces (Long ∷ (Long ∷ (Long ∷ (Long ∷ [])))) first.1 = first.4 in
    let third : ArePieces (Long ∷ (Long ∷ (Long ∷ []))) second.1 = second.4 in
    let fourth : ArePieces (Long ∷ (Long ∷ [])) third.1 = third.4 in
    let fifth : ArePieces (Long ∷ []) fourth.1 = fourth.4 in
    one_longer 16 bytes first.0 first.1 first.2 first.3 (one_longer 12 first.1 second.0 second.1 second.2 second.3
    (one_longer 8 second.1 third.0 third.1 third.2 third.3 (one_longer 4 third.1 fourth.0 fourth.1 fourth.2 fourth.3
    (one_longer 0 fourth.1 fifth.0 fifth.1 fifth.2 fifth.3 (ap length fifth.4)))))

-- two names and five numbers
start : (bytes : List ℕ) → ArePieces (OneName ∷ (OneName ∷ (Long ∷ (Long ∷ (Long ∷ (Long ∷ (Long ∷ []))))))) bytes → AreParts (parts.OneName ∷ (parts.OneName ∷ (Bytes 20 ∷ []))) bytes
start bytes are =
    let mailbox : ArePieces (OneName ∷ (Long ∷ (Long ∷ (Long ∷ (Long ∷ (Long ∷ [])))))) are.1 = are.4 in
    (are.1, (are.0, are.3, are.2), (mailbox.1, (mailbox.0, mailbox.3, mailbox.2), ([], (mailbox.1, sym (append-nil mailbox.1), five_numbers mailbox.1 mailbox.4), refl)))

in_words : (fields : List Field) (text bytes : List ℕ) → fields_of fields text ≡ Some bytes → ArePieces fields bytes
unfolding fields_of
in_words fields text bytes is = pieces_read fields (slice_split (λ byte. nat_eq byte 32) text) bytes is

-- ---- data in strings

texts_are : (text bytes : List ℕ) → strings_of text ≡ Some bytes → AreParts (Texts ∷ []) bytes
texts_are text bytes is =
    let some = strings_read text bytes is in ([], (bytes, sym (append-nil bytes), (some.0, some.1, some.2, refl)), refl)

last_string : (bytes : List ℕ) → is_one_string bytes ≡ true → (1 ≤ length bytes) × AreParts (OneText ∷ []) bytes
last_string [] is = absurd (cc)
last_string (len ∷ bytes) is =
    (omega arith, ([], (len ∷ bytes, sym (append-nil (len ∷ bytes)), (bytes, ap (λ (n : ℕ). n ∷ bytes) (eqb-true len (length bytes) is))), refl))

two_strings : (bytes : List ℕ) → are_two_strings bytes ≡ true → AreParts (OneText ∷ (OneText ∷ [])) bytes
two_strings [] is = absurd (cc)
two_strings (len ∷ bytes) is =
    let second = last_string (drop len bytes) is in
    let fits : len ≤ length bytes = omega (arith, second.0, length-drop len bytes) in
    let split : len ∷ bytes ≡ text_bytes (take len bytes) ++ drop len bytes =
    ap₂ (λ (n : ℕ) (xs : List ℕ). n ∷ xs) (sym (length-take-le len bytes fits)) (sym (take-append-drop len bytes)) in
    (drop len bytes, (text_bytes (take len bytes), split, (take len bytes, refl)), second.1)

two_by : (bytes all : List ℕ) (are : Bool) → are_two_strings bytes ≡ are → cond are (Some bytes) None ≡ Some all → AreParts (OneText ∷ (OneText ∷ [])) all
two_by bytes all true is given = given_is (AreParts (OneText ∷ (OneText ∷ []))) bytes all (two_strings bytes is) given
two_by bytes all false is given = absurd (cc)

two_texts_are : (text bytes : List ℕ) → two_strings_of text ≡ Some bytes → AreParts (OneText ∷ (OneText ∷ [])) bytes
unfolding two_strings_of
two_texts_are text bytes is = bound (AreParts (OneText ∷ (OneText ∷ []))) (strings_of text) _ (λ found there all given. two_by found all (are_two_strings found) refl given) bytes is

-- ---- data of each type

-- what is read are valid data of this type
abbrev IsValid : ℕ → Type 0
IsValid rtype = (text rdata : List ℕ) → formed_data (form_of rtype) text ≡ Some rdata → IsData rtype rdata

-- what holds of one number, and of all that are another, holds of each
pub by_type : (P : ℕ → Type 0) (rtype number : ℕ) → P number → (nat_eq rtype number ≡ false → P rtype) → P rtype
by_type P rtype number valid others =
    elim (cases_Bool (nat_eq rtype number)) [
      | inl same ↦ (let number_is : number ≡ rtype = grind (arith, nat_tests) in subst P number_is valid)
      | inr other ↦ others other
    ]

each_type : (rtype : ℕ) → IsValid rtype
unfolding form_of formed_data
each_type rtype =
    by_type IsValid rtype 0 (λ text rdata is. one_field Ticks rdata (in_words (Ticks ∷ []) text rdata is)) (λ not0.
    by_type IsValid rtype 1 (λ text rdata is. one_field FourBytes rdata (in_words (FourBytes ∷ []) text rdata is)) (λ not1.
    by_type IsValid rtype 2 (λ text rdata is. one_field OneName rdata (in_words (OneName ∷ []) text rdata is)) (λ not2.
    by_type IsValid rtype 5 (λ text rdata is. one_field OneName rdata (in_words (OneName ∷ []) text rdata is)) (λ not5.
    by_type IsValid rtype 6 (λ text rdata is. start rdata (in_words (OneName ∷ OneName ∷ Long ∷ Long ∷ Long ∷ Long ∷ Long ∷ []) text rdata is)) (λ not6.
    by_type IsValid rtype 12 (λ text rdata is. one_field OneName rdata (in_words (OneName ∷ []) text rdata is)) (λ not12.
    by_type IsValid rtype 13 (λ text rdata is. two_texts_are text rdata is) (λ not13.
    by_type IsValid rtype 15 (λ text rdata is. exchange rdata (in_words (Short ∷ OneName ∷ []) text rdata is)) (λ not15.
    by_type IsValid rtype 16 (λ text rdata is. texts_are text rdata is) (λ not16.
    by_type IsValid rtype 28 (λ text rdata is. one_field Groups rdata (in_words (Groups ∷ []) text rdata is)) (λ not28.
    by_type IsValid rtype 33 (λ text rdata is. service rdata (in_words (Short ∷ Short ∷ Short ∷ OneName ∷ []) text rdata is)) (λ not33.
    by_type IsValid rtype 49 (λ text rdata is. one_field Digits rdata (in_words (Digits ∷ []) text rdata is)) (λ not49.
    rw (not0, not1, not2, not5, not6, not12, not13, not15, not16, not28, not33, not49) (λ text rdata is. one_field Digits rdata (in_words (Digits ∷ []) text rdata is))))))))))))))

-- what is read of a text are data of its type
pub read_is_data : (rtype : ℕ) (text rdata : List ℕ) → rdata_of_text rtype text ≡ Some rdata → IsData rtype rdata
unfolding rdata_of_text
read_is_data rtype text rdata is = each_type rtype text rdata is
