-- The words of fields are read back: each has no space, and is its field's bytes.
use Rattle.std.proofs.Common.{◌≡◌, ℕ, ◌+◌, ◌-◌, ◌*◌, ◌^◌, ◌≤◌, ◌<◌, nat_eq, List, [], ◌∷◌, ◌++◌, length, Some, option_map, refl, sym, subst, ap, ◌∙◌, arith, append_assoc, append-nil, take_at, drop_at}
use Rattle.std.specs.Fmt.{decimal}
use Rattle.std.specs.Int.{w16, w32, w64, from_be_bytes, from_le_bytes, to_be_bytes, to_le_bytes}
use Rattle.std.specs.List.{AllByRecursion, slice_split}
use Rattle.std.proofs.lemmas.Nat.{be_bytes_2, be_bytes_4, le_bytes_8}
use Rattle.dn_name.specs.Name.{IsName, Labels, wire_of}
use Rattle.dn_name.specs.Text.{AllBytes, text_of}
use Rattle.dn_name.specs.Wire.{plain_name}
use Rattle.dn_name.proofs.CallerLemmas.{plain_again}
use Rattle.dn_rdata.specs.Layout.{IsPart}
use Rattle.dn_word.specs.Numbers.{number_within}
use Rattle.dn_word.proofs.CallerLemmas.{Lacks, address_lacks_space, address_read_back, decimal_lacks, name_lacks_space, name_read_back, number_read_back, split_joined, words_behind}
use Rattle.dn_text.specs.Fields.{behind_field, digits_text, field_of, field_text, fields_behind, fields_from, fields_of, fields_text, long_of, name_text, short_of, ticks_of, wire_word}
use Rattle.dn_text.specs.declared.table.Field.{Field}
use Rattle.dn_text.specs.declared.table.Field.TheVariants.{Digits, FourBytes, Groups, OneName, Short, Long, Ticks}
use Rattle.dn_text.proofs.DigitsBack.{digits_back, index_small, text_is_hex}
use Rattle.dn_text.proofs.HexTextLemmas.{AreBytes, hex_lacks_space}
use Rattle.dn_text.proofs.LongAddressesBack.{groups_lack_space, long_address_read_back}
use Rattle.dn_text.proofs.PiecesLemmas.{field_part}

-- both parts of bytes are bytes
pub both_small : (first second : List ℕ) → AreBytes (first ++ second) → AreBytes first × AreBytes second
both_small [] second small = (tt, small)
both_small (byte ∷ first) second small = let more = both_small first second small.1 in ((small.0, more.0), more.1)

-- What is printed of the field at the front of bytes has no space, and is read as this piece; these bytes are behind it.
abbrev pub Prints : Field → List ℕ → List ℕ → List ℕ → Type 0
Prints field bytes piece back = (field_of field (field_text field bytes) ≡ Some piece) × (behind_field field bytes ≡ back) × Lacks 32 (field_text field bytes)

-- ---- numbers

number_word : (most n : ℕ) (change : ℕ → List ℕ) (piece : List ℕ) → n ≤ most → n < 2 ^ 64 → change n ≡ piece → option_map change (number_within most (decimal n)) ≡ Some piece
number_word most n change piece below fits is = rw (number_read_back most n below fits) (ap Some is)

two_fit : (a b : ℕ) → a < 256 → b < 256 → a * 256 ^ 1 + b ≤ 2 ^ 16 - 1
two_fit a b small_a small_b = omega arith

four_fit : (a b c d : ℕ) → a < 256 → b < 256 → c < 256 → d < 256 → a * 256 ^ 3 + b * 256 ^ 2 + c * 256 ^ 1 + d ≤ 2 ^ 32 - 1
four_fit a b c d small_a small_b small_c small_d = omega arith

eight_fit : (a b c d e f g h : ℕ) → a < 256 → b < 256 → c < 256 → d < 256 → e < 256 → f < 256 → g < 256 → h < 256
    → a + b * 256 ^ 1 + c * 256 ^ 2 + d * 256 ^ 3 + e * 256 ^ 4 + f * 256 ^ 5 + g * 256 ^ 6 + h * 256 ^ 7 ≤ 2 ^ 64 - 1
eight_fit a b c d e f g h small_a small_b small_c small_d small_e small_f small_g small_h = omega arith

short_word : (a b n : ℕ) → n ≡ from_be_bytes w16 (a ∷ b ∷ []) → n ≤ 2 ^ 16 - 1 → AreBytes (a ∷ b ∷ [])
    → (short_of (decimal n) ≡ Some (a ∷ b ∷ [])) × Lacks 32 (decimal n)
unfolding short_of
short_word a b n is fits small = (
  number_word (2 ^ 16 - 1) n (λ number. to_be_bytes w16 number) (a ∷ b ∷ []) fits (omega arith) (be_bytes_2 (a ∷ b ∷ []) n refl (index_small (a ∷ b ∷ []) small) is),
  decimal_lacks 32 n (omega arith) (omega arith),
)

short_back : (piece back : List ℕ) → length piece ≡ 2 → AreBytes piece → Prints Short (piece ++ back) piece back
unfolding field_of field_text behind_field
short_back (a ∷ b ∷ []) back size small =
    let word = short_word a b (from_be_bytes w16 (a ∷ b ∷ [])) refl (two_fit a b small.0 small.1.0) small in (word.0, refl, word.1)
short_back [] back size small = absurd (omega arith)
short_back (a ∷ []) back size small = absurd (omega arith)
short_back (a ∷ b ∷ c ∷ piece) back size small = absurd (omega arith)

long_word : (a b c d n : ℕ) → n ≡ from_be_bytes w32 (a ∷ b ∷ c ∷ d ∷ []) → n ≤ 2 ^ 32 - 1 → AreBytes (a ∷ b ∷ c ∷ d ∷ [])
    → (long_of (decimal n) ≡ Some (a ∷ b ∷ c ∷ d ∷ [])) × Lacks 32 (decimal n)
unfolding long_of
long_word a b c d n is fits small = (
  number_word (2 ^ 32 - 1) n (λ number. to_be_bytes w32 number) (a ∷ b ∷ c ∷ d ∷ []) fits (omega arith) (be_bytes_4 (a ∷ b ∷ c ∷ d ∷ []) n refl (index_small (a ∷ b ∷ c ∷ d ∷ []) small) is),
  decimal_lacks 32 n (omega arith) (omega arith),
)

long_back : (piece back : List ℕ) → length piece ≡ 4 → AreBytes piece → Prints Long (piece ++ back) piece back
unfolding field_of field_text behind_field
long_back (a ∷ b ∷ c ∷ d ∷ []) back size small =
    let word = long_word a b c d (from_be_bytes w32 (a ∷ b ∷ c ∷ d ∷ [])) refl (four_fit a b c d small.0 small.1.0 small.1.1.0 small.1.1.1.0) small in (word.0, refl, word.1)
long_back [] back size small = absurd (omega arith)
long_back (a ∷ []) back size small = absurd (omega arith)
long_back (a ∷ b ∷ []) back size small = absurd (omega arith)
long_back (a ∷ b ∷ c ∷ []) back size small = absurd (omega arith)
long_back (a ∷ b ∷ c ∷ d ∷ e ∷ piece) back size small = absurd (omega arith)

ticks_word : (piece : List ℕ) (n : ℕ) → length piece ≡ 8 → n ≡ from_le_bytes w64 piece → n ≤ 2 ^ 64 - 1 → AreBytes piece
    → (ticks_of (decimal n) ≡ Some piece) × Lacks 32 (decimal n)
unfolding ticks_of
ticks_word piece n size is fits small = (
  number_word (2 ^ 64 - 1) n (λ number. to_le_bytes w64 number) piece fits (omega arith) (le_bytes_8 piece n size (index_small piece small) is),
  decimal_lacks 32 n (omega arith) (omega arith),
)

ticks_back : (piece back : List ℕ) → length piece ≡ 8 → AreBytes piece → Prints Ticks (piece ++ back) piece back
unfolding field_of field_text behind_field
ticks_back (a ∷ b ∷ c ∷ d ∷ e ∷ f ∷ g ∷ h ∷ []) back size small =
    let word = ticks_word (a ∷ b ∷ c ∷ d ∷ e ∷ f ∷ g ∷ h ∷ []) (from_le_bytes w64 (a ∷ b ∷ c ∷ d ∷ e ∷ f ∷ g ∷ h ∷ [])) refl refl
    (eight_fit a b c d e f g h small.0 small.1.0 small.1.1.0 small.1.1.1.0 small.1.1.1.1.0 small.1.1.1.1.1.0 small.1.1.1.1.1.1.0 small.1.1.1.1.1.1.1.0) small in (word.0, refl, word.1)
ticks_back [] back size small = absurd (omega arith)
ticks_back (a ∷ []) back size small = absurd (omega arith)
ticks_back (a ∷ b ∷ []) back size small = absurd (omega arith)
ticks_back (a ∷ b ∷ c ∷ []) back size small = absurd (omega arith)
ticks_back (a ∷ b ∷ c ∷ d ∷ []) back size small = absurd (omega arith)
ticks_back (a ∷ b ∷ c ∷ d ∷ e ∷ []) back size small = absurd (omega arith)
ticks_back (a ∷ b ∷ c ∷ d ∷ e ∷ f ∷ []) back size small = absurd (omega arith)
ticks_back (a ∷ b ∷ c ∷ d ∷ e ∷ f ∷ g ∷ []) back size small = absurd (omega arith)
ticks_back (a ∷ b ∷ c ∷ d ∷ e ∷ f ∷ g ∷ h ∷ i ∷ piece) back size small = absurd (omega arith)

-- ---- addresses

four_back : (piece back : List ℕ) → length piece ≡ 4 → AreBytes piece → Prints FourBytes (piece ++ back) piece back
unfolding field_of field_text behind_field
four_back piece back size small =
    rw (take_at piece back 4 size) (address_read_back piece size small, drop_at piece back 4 size, address_lacks_space piece small)

groups_printed : (piece back : List ℕ) → length piece ≡ 16 → AreBytes piece → Prints Groups (piece ++ back) piece back
unfolding field_of field_text behind_field
groups_printed piece back size small =
    rw (take_at piece back 16 size) (long_address_read_back piece size small, drop_at piece back 16 size, groups_lack_space piece small)

-- ---- names

bytes_named : (name : Labels) → AreBytes (wire_of name) → AllBytes name
bytes_named [] small = tt
bytes_named (label ∷ name) small = let parts = both_small label (wire_of name) small.1 in (parts.0, bytes_named name parts.1)

wire_back : (name : Labels) → IsName name → AllBytes name → wire_word (text_of name) ≡ Some (wire_of name)
unfolding wire_word
wire_back name is small = ap (option_map (λ (labels : Labels). wire_of labels)) (name_read_back name is small)

name_printed : (bytes back : List ℕ) (name : Labels) → plain_name bytes ≡ Some (name, back) → IsName name → AllBytes name → Prints OneName bytes (wire_of name) back
unfolding field_of field_text behind_field name_text
name_printed bytes back name found is small = rw found (wire_back name is small, refl, name_lacks_space name)

name_back : (piece back : List ℕ) (name : Labels) → IsName name → piece ≡ wire_of name → AreBytes piece → Prints OneName (piece ++ back) piece back
name_back piece back name is e small =
    subst (λ (it : List ℕ). Prints OneName (it ++ back) it back) (sym e)
    (name_printed (wire_of name ++ back) back name (plain_again name back is) is (bytes_named name (subst AreBytes e small)))

-- ---- digits

digits_lack_space : (bytes : List ℕ) → AreBytes bytes → Lacks 32 (digits_text bytes)
unfolding digits_text
digits_lack_space [] small = (refl, tt)
digits_lack_space (byte ∷ bytes) small = subst (Lacks 32) (sym (text_is_hex byte bytes)) (hex_lacks_space (byte ∷ bytes) small)

digits_printed : (bytes : List ℕ) → AreBytes bytes → Prints Digits bytes bytes []
unfolding field_of field_text behind_field
digits_printed bytes small = (digits_back bytes small, refl, digits_lack_space bytes small)

rest_back : (piece back : List ℕ) → back ≡ [] → AreBytes piece → Prints Digits (piece ++ back) piece back
rest_back piece back none small =
    subst (λ (it : List ℕ). Prints Digits (piece ++ it) piece it) (sym none)
    (subst (λ (it : List ℕ). Prints Digits it piece []) (sym (append-nil piece)) (digits_printed piece small))

-- ---- any field

field_back : (field : Field) (piece back : List ℕ) → IsPart (field_part field) piece back → AreBytes piece → Prints field (piece ++ back) piece back
field_back Ticks piece back is small = ticks_back piece back is small
field_back FourBytes piece back is small = four_back piece back is small
field_back Groups piece back is small = groups_printed piece back is small
field_back OneName piece back is small = name_back piece back is.0 is.1 is.2 small
field_back Short piece back is small = short_back piece back is small
field_back Long piece back is small = long_back piece back is small
field_back Digits piece back is small = rest_back piece back is small

-- the bytes are these fields, one behind another
abbrev pub AreFields : List Field → List ℕ → Type 0
AreFields [] bytes = bytes ≡ []
AreFields (field ∷ fields) bytes = (piece back : List ℕ) × (bytes ≡ piece ++ back) × IsPart (field_part field) piece back × AreFields fields back

-- the words that are printed of fields
abbrev piece_words : List Field → List ℕ → List (List ℕ)
piece_words [] bytes = []
piece_words (field ∷ fields) bytes = field_text field bytes ∷ piece_words fields (behind_field field bytes)

behind_are : (fields : List Field) (bytes : List ℕ) → fields_behind fields bytes ≡ words_behind 32 (piece_words fields bytes)
unfolding fields_behind
behind_are [] bytes = refl
behind_are (field ∷ fields) bytes = ap (λ rest. 32 ∷ (field_text field bytes ++ rest)) (behind_are fields (behind_field field bytes))

text_is : (field : Field) (fields : List Field) (bytes : List ℕ)
    → fields_text (field ∷ fields) bytes ≡ field_text field bytes ++ words_behind 32 (piece_words fields (behind_field field bytes))
unfolding fields_text
text_is field fields bytes = ap (λ rest. field_text field bytes ++ rest) (behind_are fields (behind_field field bytes))

first_prints : (field : Field) (fields : List Field) (bytes : List ℕ) (are : AreFields (field ∷ fields) bytes) → AreBytes bytes
    → Prints field bytes are.0 are.1 × AreBytes are.1
first_prints field fields bytes are small =
    let parts = both_small are.0 are.1 (subst AreBytes are.2 small) in
    (subst (λ (it : List ℕ). Prints field it are.0 are.1) (sym are.2) (field_back field are.0 are.1 are.3 parts.0), parts.1)

all_lack : (fields : List Field) (bytes : List ℕ) → AreFields fields bytes → AreBytes bytes → AllByRecursion (Lacks 32) (piece_words fields bytes)
all_lack [] bytes are small = tt
all_lack (field ∷ fields) bytes are small =
    let first = first_prints field fields bytes are small in
    (first.0.2, subst (λ (it : List ℕ). AllByRecursion (Lacks 32) (piece_words fields it)) (sym first.0.1) (all_lack fields are.1 are.4 first.1))

one_word : (done : List ℕ) (field : Field) (fields : List Field) (word : List ℕ) (words : List (List ℕ)) (piece all : List ℕ) → field_of field word ≡ Some piece
    → fields_from (done ++ piece) fields words ≡ Some all → fields_from done (field ∷ fields) (word ∷ words) ≡ Some all
unfolding fields_from
one_word done field fields word words piece all is found = rw is found

no_fields : (done bytes : List ℕ) → bytes ≡ [] → fields_from done [] [] ≡ Some (done ++ bytes)
unfolding fields_from
no_fields done bytes none = rw none (ap Some (sym (append-nil done)))

words_read : (done : List ℕ) (fields : List Field) (bytes : List ℕ) → AreFields fields bytes → AreBytes bytes → fields_from done fields (piece_words fields bytes) ≡ Some (done ++ bytes)
words_read done [] bytes are small = no_fields done bytes are
words_read done (field ∷ fields) bytes are small =
    let first = first_prints field fields bytes are small in
    let rest : fields_from (done ++ are.0) fields (piece_words fields are.1) ≡ Some (done ++ bytes) =
    words_read (done ++ are.0) fields are.1 are.4 first.1 ∙ ap Some (append_assoc done are.0 are.1 ∙ ap (λ (it : List ℕ). done ++ it) (sym are.2)) in
    one_word done field fields (field_text field bytes) (piece_words fields (behind_field field bytes)) are.0 (done ++ bytes) first.0.0
    (subst (λ (it : List ℕ). fields_from (done ++ are.0) fields (piece_words fields it) ≡ Some (done ++ bytes)) (sym first.0.1) rest)

-- the text of one field or more is read back
pub fields_back : (field : Field) (fields : List Field) (bytes : List ℕ) → AreFields (field ∷ fields) bytes → AreBytes bytes
    → fields_of (field ∷ fields) (fields_text (field ∷ fields) bytes) ≡ Some bytes
unfolding fields_of
fields_back field fields bytes are small =
    ap (λ text. fields_from [] (field ∷ fields) (slice_split (λ byte. nat_eq byte 32) text)) (text_is field fields bytes)
    ∙ ap (fields_from [] (field ∷ fields))
    (split_joined 32 (field_text field bytes) (piece_words fields (behind_field field bytes)) (all_lack (field ∷ fields) bytes are small))
    ∙ words_read [] (field ∷ fields) bytes are small
