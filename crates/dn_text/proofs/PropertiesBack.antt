-- Reading the line of a stored property gives the property.
use Rattle.std.proofs.Common.{◌≡◌, ℕ, ◌-◌, ◌^◌, ◌<◌, ◌≤◌, false, nat_eq, List, [], ◌∷◌, ◌++◌, codes, length, None, Some, inl, inr, refl, ap, subst, ◌∙◌, arith, append_assoc, le-leb}
use Rattle.std.specs.Fmt.{decimal}
use Rattle.std.specs.Int.{IsInRange as IsWithin}
use Rattle.std.specs.List.{AllByRecursion}
use Rattle.std.proofs.lemmas.Bool.{cases_Bool}
use Rattle.std.proofs.lemmas.Bool.Decides.{nat_tests}
use Rattle.dn_property.specs.declared.property.Property.{Property}
use Rattle.dn_word.specs.Hex.{hex_text}
use Rattle.dn_word.specs.Print.{count_text}
use Rattle.dn_word.proofs.CallerLemmas.{Lacks, decimal_digits, decimal_lacks, decimal_some, number_read_back}
use Rattle.dn_text.specs.Fields.{digits_text}
use Rattle.dn_property.specs.Ranges.{IsInRange}
use Rattle.dn_text.specs.PropertyLines.{PropertiesAreReadBack, id_behind, id_of_word, labels_of, property_of_text, property_text, tail_of, texts_of}
use Rattle.dn_text.specs.PropertyTable.{id_named, id_text}
use Rattle.dn_text.proofs.DigitsBack.{digits_back, hex_back}
use Rattle.dn_text.proofs.HexTextLemmas.{hex_lacks_space}
use Rattle.dn_text.proofs.LabelledBack.{handed_on, label_back, lacks_by, number_back, word_back}

-- ---- the id

-- no name begins with a digit
digit_is_none : (digit : ℕ) (word : List ℕ) → IsWithin 48 57 digit → id_named (digit ∷ word) ≡ None
unfolding id_named
digit_is_none digit word is =
    let not_z : nat_eq digit 90 ≡ false = grind (arith, nat_tests) in
    let not_a : nat_eq digit 65 ≡ false = grind (arith, nat_tests) in
    let not_s : nat_eq digit 83 ≡ false = grind (arith, nat_tests) in
    let not_n : nat_eq digit 78 ≡ false = grind (arith, nat_tests) in
    let not_r : nat_eq digit 82 ≡ false = grind (arith, nat_tests) in
    let not_d : nat_eq digit 68 ≡ false = grind (arith, nat_tests) in
    let not_m : nat_eq digit 77 ≡ false = grind (arith, nat_tests) in
    rw (not_z, not_a, not_s, not_n, not_r, not_d, not_m) refl

digits_are_none : (word : List ℕ) → 0 < length word → AllByRecursion (IsWithin 48 57) word → id_named word ≡ None
digits_are_none [] some are = absurd (omega arith)
digits_are_none (digit ∷ word) some are = digit_is_none digit word are.0

-- an id is read back from its word, which has no space
abbrev IsBack : ℕ → Type 0
IsBack id = id < 2 ^ 32 → (id_of_word (id_text id) ≡ Some id) × Lacks 32 (id_text id)

numbered : (id : ℕ) → id < 2 ^ 32 → id_of_word (decimal id) ≡ Some id
unfolding id_of_word
numbered id fits =
    rw (digits_are_none (decimal id) (decimal_some id (omega (arith, fits))) (decimal_digits id (omega (arith, fits))))
    (number_read_back (2 ^ 32 - 1) id (omega (arith, fits)) (omega (arith, fits)))

-- what holds of one number, and of all that are another, holds of each
by_id : (id number : ℕ) → IsBack number → (nat_eq id number ≡ false → IsBack id) → IsBack id
by_id id number back others =
    elim (cases_Bool (nat_eq id number)) [
      | inl same ↦ (let number_is : number ≡ id = grind (arith, nat_tests) in subst IsBack number_is back)
      | inr other ↦ others other
    ]

id_back : (id : ℕ) → IsBack id
unfolding id_named id_of_word id_text
id_back id =
    by_id id 1 (λ fits. (refl, lacks_by (codes "ZONE_TYPE") refl)) (λ not1.
    by_id id 2 (λ fits. (refl, lacks_by (codes "ALLOW_UPDATE") refl)) (λ not2.
    by_id id 8 (λ fits. (refl, lacks_by (codes "SECURE_TIME") refl)) (λ not8.
    by_id id 16 (λ fits. (refl, lacks_by (codes "NOREFRESH_INTERVAL") refl)) (λ not16.
    by_id id 17 (λ fits. (refl, lacks_by (codes "SCAVENGING_SERVERS") refl)) (λ not17.
    by_id id 18 (λ fits. (refl, lacks_by (codes "AGING_ENABLED_TIME") refl)) (λ not18.
    by_id id 32 (λ fits. (refl, lacks_by (codes "REFRESH_INTERVAL") refl)) (λ not32.
    by_id id 64 (λ fits. (refl, lacks_by (codes "AGING_STATE") refl)) (λ not64.
    by_id id 128 (λ fits. (refl, lacks_by (codes "DELETED_FROM_HOSTNAME") refl)) (λ not128.
    by_id id 129 (λ fits. (refl, lacks_by (codes "MASTER_SERVERS") refl)) (λ not129.
    by_id id 130 (λ fits. (refl, lacks_by (codes "AUTO_NS_SERVERS") refl)) (λ not130.
    by_id id 131 (λ fits. (refl, lacks_by (codes "DCPROMO_CONVERT") refl)) (λ not131.
    by_id id 256 (λ fits. (refl, lacks_by (codes "NODE_DBFLAGS") refl)) (λ not256.
    rw (not1, not2, not8, not16, not17, not18, not32, not64, not128, not129, not130, not131, not256)
    (λ fits. (numbered id fits, decimal_lacks 32 id (omega arith) (omega (arith, fits)))))))))))))))))

-- ---- the content and the tail

content_lacks : (bytes : List ℕ) → AllByRecursion (λ byte. byte < 256) bytes → Lacks 32 (digits_text bytes)
unfolding digits_text
content_lacks [] small = lacks_by (codes "-") refl
content_lacks (byte ∷ bytes) small =
    let some : nat_eq (length (byte ∷ bytes)) 0 ≡ false = grind (arith, nat_tests) in rw some (hex_lacks_space (byte ∷ bytes) small)

tail_back : (tail : List ℕ) → AllByRecursion (λ byte. byte < 256) tail → 1 ≤ length tail → length tail ≤ 4 → tail_of (hex_text tail) ≡ Some tail
unfolding tail_of
tail_back tail small least most =
    handed_on _ tail _ (hex_back tail small) ∙ rw (le-leb 1 (length tail) least, le-leb (length tail) 4 most) refl

-- ---- the line

id_behind_back : (id : ℕ) (rest : List ℕ) → id < 2 ^ 32 → id_behind (codes "property " ++ (id_text id ++ (32 ∷ rest))) ≡ Some (id, rest)
unfolding id_behind
id_behind_back id rest fits =
    let back = id_back id fits in
    handed_on _ (id_text id, rest) _ (word_back (codes "property ") (id_text id) rest back.1) ∙ handed_on _ id _ back.0

labels_back : (id name_length flag : ℕ) (rest : List ℕ) → id < 2 ^ 32 → name_length < 2 ^ 32 → flag < 2 ^ 32
    → labels_of (codes "property " ++ (id_text id ++ (32 ∷ (codes "name_length=" ++ (decimal name_length ++ (32 ∷ (codes "flag=" ++ (decimal flag ++ (32 ∷ rest)))))))))
    ≡ Some (record { id = id; name_length = name_length; flag = flag }, rest)
unfolding labels_of
labels_back id name_length flag rest id_fits name_length_fits flag_fits =
    handed_on _ (id, _) _ (id_behind_back id _ id_fits)
    ∙ handed_on _ (name_length, _) _ (number_back (codes "name_length=") (2 ^ 32 - 1) name_length _ (omega (arith, name_length_fits)) (omega (arith, name_length_fits)))
    ∙ handed_on _ (flag, rest) _ (number_back (codes "flag=") (2 ^ 32 - 1) flag rest (omega (arith, flag_fits)) (omega (arith, flag_fits)))

-- a line's pieces, grouped to the right
regrouped : (word id a name_length b flag c content d tail : List ℕ)
    → word ++ id ++ (a ++ name_length) ++ (b ++ flag) ++ c ++ content ++ d ++ tail
    ≡ word ++ (id ++ (a ++ (name_length ++ (b ++ (flag ++ (c ++ (content ++ (d ++ tail))))))))
regrouped word id a name_length b flag c content d tail = simp append_assoc

line_is : (item : Property) → property_text item
    ≡ codes "property " ++ (id_text item.id ++ (codes " name_length=" ++ (decimal item.name_length ++ (codes " flag=" ++ (decimal item.flag
    ++ (codes " content=" ++ (digits_text item.content ++ (codes " tail=" ++ hex_text item.tail))))))))
unfolding property_text count_text
line_is item =
    regrouped (codes "property ") (id_text item.id) (codes " name_length=") (decimal item.name_length) (codes " flag=") (decimal item.flag)
    (codes " content=") (digits_text item.content) (codes " tail=") (hex_text item.tail)

texts_back : (item : Property) → IsInRange item
    → texts_of (property_text item) ≡ Some (record { id = item.id; name_length = item.name_length; flag = item.flag }, digits_text item.content, hex_text item.tail)
unfolding texts_of
texts_back item are =
    ap texts_of (line_is item)
    ∙ handed_on _ (record { id = item.id; name_length = item.name_length; flag = item.flag }, _) _ (labels_back item.id item.name_length item.flag _ are.id_fits are.name_length_fits are.flag_fits)
    ∙ handed_on _ (digits_text item.content, _) _ (word_back (codes "content=") (digits_text item.content) _ (content_lacks item.content are.content_are_bytes))
    ∙ handed_on _ (hex_text item.tail) _ (label_back (codes "tail=") (hex_text item.tail))

pub properties_back : PropertiesAreReadBack
unfolding property_of_text
properties_back item are =
    handed_on _ _ _ (texts_back item are) ∙ handed_on _ item.content _ (digits_back item.content are.content_are_bytes)
    ∙ handed_on _ item.tail _ (tail_back item.tail are.tail_are_bytes are.tail_least are.tail_most)
