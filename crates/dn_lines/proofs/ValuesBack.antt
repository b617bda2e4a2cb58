-- What `show` writes of a value is packed into the same bytes, and what `pack` writes is shown as the same value.
use Rattle.std.proofs.Common.{◌≡◌, ℕ, ◌+◌, ◌^◌, ◌<◌, true, false, nat_eq, nat_lt, List, [], ◌∷◌, ◌++◌, codes, length, None, Some, inl, inr, refl, ap, ◌∙◌, arith}
use Rattle.std.specs.List.{slice_split}
use Rattle.std.proofs.lemmas.Bool.Decides.{nat_tests}
use Rattle.dn_rdata.specs.Layout.{IsData}
use Rattle.dn_rdata.specs.Ranges.{AreBytes, IsInRange}
use Rattle.dn_rdata.specs.Record.{stored_size}
use Rattle.dn_rdata.specs.declared.record.Record.{Record}
use Rattle.dn_rdata.proofs.CallerLemmas.{stored_valid}
use Rattle.dn_record.specs.Layout.{IsRecord}
use Rattle.dn_property.specs.Ranges.{IsInRange as Ranged}
use Rattle.dn_property.specs.Stored.{IsProperty}
use Rattle.dn_property.specs.declared.property.Property.{Property}
use Rattle.dn_word.specs.Hex.{bytes_of_hex, hex_text}
use Rattle.dn_word.specs.Print.{count_text}
use Rattle.dn_word.specs.Words.{is_blank, words_of}
use Rattle.dn_word.proofs.CallerLemmas.{Lacks}
use Rattle.dn_text.specs.Fields.{digits_text}
use Rattle.dn_text.specs.Labelled.{behind_label, word_behind}
use Rattle.dn_text.specs.PropertyLines.{property_text}
use Rattle.dn_text.specs.PropertyTable.{id_text}
use Rattle.dn_text.specs.RecordLines.{head_of, numbers_text, record_of_text, record_text, stored_type_text, typed_of}
use Rattle.dn_text.specs.Rows.{data_text}
use Rattle.dn_text.proofs.CallerLemmas.{hex_back, hex_lacks_space, hex_lacks_tab, hex_some, properties_back, records_back}
use Rattle.dn_lines.specs.declared.value.Stored.{Stored}
use Rattle.dn_lines.specs.declared.value.Stored.TheVariants as stored
use Rattle.dn_lines.specs.declared.value.Value.TheVariants as values
use Rattle.dn_lines.specs.ValueLaws.{Laws, PackedIsShown, ShownIsPacked}
use Rattle.dn_lines.specs.Values.{fitting_property, fitting_record, stored_of, stored_of_kind, stored_text, value_of, value_text}
use Rattle.dn_lines.specs.Words.{does_nothing}

-- ---- the words of such lines

record_words : (rest : List ℕ) → words_of (codes "record " ++ rest) ≡ codes "record" ∷ words_of rest
unfolding words_of
record_words rest = refl

property_words : (rest : List ℕ) → words_of (codes "property " ++ rest) ≡ codes "property" ∷ words_of rest
unfolding words_of
property_words rest = refl

some_words : (word : List ℕ) (words : List (List ℕ)) → nat_eq (length (word ∷ words)) 0 ≡ false
some_words word words = grind (arith, nat_tests)

record_does : (rest : List ℕ) → does_nothing (codes "record " ++ rest) ≡ false
unfolding does_nothing
record_does rest = rw (record_words rest) (some_words (codes "record") (words_of rest))

property_does : (rest : List ℕ) → does_nothing (codes "property " ++ rest) ≡ false
unfolding does_nothing
property_does rest = rw (property_words rest) (some_words (codes "property") (words_of rest))

-- a word of digits, which has no blank
no_blanks : (word : List ℕ) → Lacks 32 word → Lacks 9 word → slice_split is_blank word ≡ word ∷ []
no_blanks [] spaces tabs = refl
no_blanks (byte ∷ word) spaces tabs = rw (spaces.0, tabs.0, no_blanks word spaces.1 tabs.1) refl

one_word : (word : List ℕ) → slice_split is_blank word ≡ word ∷ [] → nat_lt 0 (length word) ≡ true → words_of word ≡ word ∷ []
unfolding words_of
one_word word whole some = rw (whole, some) refl

-- the word of the digits of one byte or more
hex_word : (byte : ℕ) (bytes : List ℕ) → AreBytes (byte ∷ bytes) → words_of (hex_text (byte ∷ bytes)) ≡ hex_text (byte ∷ bytes) ∷ []
hex_word byte bytes are =
    one_word (hex_text (byte ∷ bytes)) (no_blanks (hex_text (byte ∷ bytes)) (hex_lacks_space (byte ∷ bytes) are) (hex_lacks_tab (byte ∷ bytes) are)) (hex_some byte bytes)

-- ---- `show` of the bytes of a value

found_bytes : (word kind bytes : List ℕ) (there : Stored) → bytes_of_hex word ≡ Some bytes → stored_of_kind kind bytes ≡ Some there → stored_of (kind ∷ (word ∷ [])) ≡ Some there
unfolding stored_of
found_bytes word kind bytes there digits is = rw digits is

a_record : (bytes : List ℕ) → stored_of_kind (codes "record") bytes ≡ Some (stored.Record bytes)
unfolding stored_of_kind
a_record bytes = refl

a_property : (bytes : List ℕ) → stored_of_kind (codes "property") bytes ≡ Some (stored.Property bytes)
unfolding stored_of_kind
a_property bytes = refl

stored_record : (byte : ℕ) (bytes : List ℕ) → AreBytes (byte ∷ bytes) → stored_of (words_of (codes "record " ++ hex_text (byte ∷ bytes))) ≡ Some (stored.Record (byte ∷ bytes))
stored_record byte bytes are =
    ap stored_of (record_words (hex_text (byte ∷ bytes)) ∙ ap (λ (words : List (List ℕ)). codes "record" ∷ words) (hex_word byte bytes are))
    ∙ found_bytes (hex_text (byte ∷ bytes)) (codes "record") (byte ∷ bytes) (stored.Record (byte ∷ bytes)) (hex_back (byte ∷ bytes) are) (a_record (byte ∷ bytes))

stored_property : (byte : ℕ) (bytes : List ℕ) → AreBytes (byte ∷ bytes)
    → stored_of (words_of (codes "property " ++ hex_text (byte ∷ bytes))) ≡ Some (stored.Property (byte ∷ bytes))
stored_property byte bytes are =
    ap stored_of (property_words (hex_text (byte ∷ bytes)) ∙ ap (λ (words : List (List ℕ)). codes "property" ∷ words) (hex_word byte bytes are))
    ∙ found_bytes (hex_text (byte ∷ bytes)) (codes "property") (byte ∷ bytes) (stored.Property (byte ∷ bytes)) (hex_back (byte ∷ bytes) are) (a_property (byte ∷ bytes))

none_first : (bytes : List ℕ) (item : Record) → [] ≡ bytes → IsRecord bytes item → ⊥
none_first bytes item none is = let e = none ∙ is.bytes_are in cc

none_first_property : (bytes : List ℕ) (item : Property) → [] ≡ bytes → IsProperty bytes item → ⊥
none_first_property bytes item none is = let e = none ∙ is.layout in cc

record_stored : (bytes : List ℕ) (item : Record) → AreBytes bytes → IsRecord bytes item → stored_of (words_of (codes "record " ++ hex_text bytes)) ≡ Some (stored.Record bytes)
record_stored [] item are is = absurd (none_first [] item refl is)
record_stored (byte ∷ bytes) item are is = stored_record byte bytes are

property_stored : (bytes : List ℕ) (item : Property) → AreBytes bytes → IsProperty bytes item
    → stored_of (words_of (codes "property " ++ hex_text bytes)) ≡ Some (stored.Property bytes)
property_stored [] item are is = absurd (none_first_property [] item refl is)
property_stored (byte ∷ bytes) item are is = stored_property byte bytes are

pub packed_shown : PackedIsShown
unfolding stored_text value_text
packed_shown (stored.Record bytes) (values.Record item) are is =
    inr (record_does (hex_text bytes), stored.Record bytes, record_text item, record_stored bytes item are is, inl (values.Record item, is, refl), refl)
packed_shown (stored.Record bytes) (values.Property item) are is = absurd is
packed_shown (stored.Property bytes) (values.Record item) are is = absurd is
packed_shown (stored.Property bytes) (values.Property item) are is =
    inr (property_does (hex_text bytes), stored.Property bytes, property_text item, property_stored bytes item are is, inl (values.Property item, is, refl), refl)

-- ---- `pack` of a value's line

behind_record : (item : Record) → record_text item ≡ codes "record " ++ (stored_type_text item.rtype ++ numbers_text item ++ codes " " ++ data_text item.rtype item.rdata)
unfolding record_text
behind_record item = refl

record_is_a_line : (item : Record) → does_nothing (record_text item) ≡ false
record_is_a_line item = ap does_nothing (behind_record item) ∙ record_does (stored_type_text item.rtype ++ numbers_text item ++ codes " " ++ data_text item.rtype item.rdata)

property_is_a_line : (item : Property) → does_nothing (property_text item) ≡ false
unfolding property_text
property_is_a_line item =
    property_does (id_text item.id ++ count_text (codes " name_length=") item.name_length ++ count_text (codes " flag=") item.flag
    ++ codes " content=" ++ digits_text item.content ++ codes " tail=" ++ hex_text item.tail)

fits_test : (size limit : ℕ) → size < limit → nat_lt size limit ≡ true
fits_test size limit fits = grind (arith, nat_tests)

record_packed : (item : Record) → IsInRange item → IsData item.rtype item.rdata → stored_size item < 24 + 2 ^ 16 → value_of (record_text item) ≡ Some (values.Record item)
unfolding value_of fitting_record
record_packed item are valid fits = rw (records_back item are valid, fits_test (stored_size item) (24 + 2 ^ 16) fits) refl

no_record_line : (rest : List ℕ) → record_of_text (codes "property " ++ rest) ≡ None
unfolding record_of_text head_of typed_of word_behind behind_label
no_record_line rest = refl

property_is_no_record : (item : Property) → fitting_record (property_text item) ≡ None
unfolding fitting_record property_text
property_is_no_record item =
    rw (no_record_line (id_text item.id ++ count_text (codes " name_length=") item.name_length ++ count_text (codes " flag=") item.flag
    ++ codes " content=" ++ digits_text item.content ++ codes " tail=" ++ hex_text item.tail)) refl

property_packed : (item : Property) → Ranged item → length item.content < 2 ^ 32 → value_of (property_text item) ≡ Some (values.Property item)
unfolding value_of fitting_property
property_packed item are fits = rw (property_is_no_record item, properties_back item are, fits_test (length item.content) (2 ^ 32) fits) refl

pub shown_packed : Laws → ShownIsPacked
unfolding stored_text value_text
shown_packed laws (stored.Record bytes) (values.Record item) are is =
    let ranged = laws.records_fit bytes item are is in
    inr (record_is_a_line item, values.Record item, stored.Record bytes, record_packed item ranged.0 (stored_valid item.rtype is.stored item.rdata is.data_is) ranged.1, is, refl)
shown_packed laws (stored.Record bytes) (values.Property item) are is = absurd is
shown_packed laws (stored.Property bytes) (values.Record item) are is = absurd is
shown_packed laws (stored.Property bytes) (values.Property item) are is =
    let ranged = laws.properties_fit bytes item are is in
    inr (property_is_a_line item, values.Property item, stored.Property bytes, property_packed item ranged.0 ranged.1, is, refl)
