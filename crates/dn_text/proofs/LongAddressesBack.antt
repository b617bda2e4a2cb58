-- Reading the text of an address of IPv6 gives the address.
use Rattle.std.proofs.Common.{◌≡◌, ℕ, zero, suc, ◌+◌, ◌/◌, ◌%◌, Bool, true, false, nat_eq, List, [], ◌∷◌, ◌++◌, length, slice_index, None, Some, refl, sym, subst, ap, ◌∙◌, arith, append_assoc, append-nil}
use Rattle.std.specs.Prelude.{⊤}
use Rattle.std.specs.List.{AllByRecursion, slice_split}
use Rattle.std.specs.Result.{result_ok}
use Rattle.std.proofs.lemmas.Bool.Decides.{nat_tests}
use Rattle.hex.specs.Hex.{encode_with, lower_digits}
use Rattle.hex.proofs.HexLemmas.{decode_sized-encode_lower}
use Rattle.dn_word.specs.Hex.{hex_text}
use Rattle.dn_word.proofs.CallerLemmas.{Lacks, lacks_both, lacks_words, split_joined, words_behind}
use Rattle.dn_text.specs.Laws.{LongAddressesAreReadBack}
use Rattle.dn_text.specs.LongAddresses.{double_from, group_of, groups_behind, groups_from, groups_of, groups_text, long_address_of, whole_groups}
use Rattle.dn_text.proofs.DigitsBack.{index_small}
use Rattle.dn_text.proofs.HexTextLemmas.{AreBytes, hex_lacks_colon, hex_lacks_space}

-- two bytes a group
abbrev ArePairs : List ℕ → Type 0
ArePairs [] = ⊤
ArePairs (byte ∷ []) = ⊥
ArePairs (high ∷ low ∷ bytes) = ArePairs bytes

abbrev group_words : List ℕ → List (List ℕ)
group_words [] = []
group_words (byte ∷ []) = []
group_words (high ∷ low ∷ bytes) = hex_text (high ∷ low ∷ []) ∷ group_words bytes

pairs : (count : ℕ) (bytes : List ℕ) → length bytes ≡ count + count → ArePairs bytes
pairs zero [] size = tt
pairs zero (byte ∷ bytes) size = absurd (omega arith)
pairs (suc count) [] size = absurd (omega arith)
pairs (suc count) (byte ∷ []) size = absurd (omega arith)
pairs (suc count) (high ∷ low ∷ bytes) size = pairs count bytes (omega arith)

behind_are : (bytes : List ℕ) → groups_behind bytes ≡ words_behind 58 (group_words bytes)
unfolding groups_behind
behind_are [] = refl
behind_are (byte ∷ []) = refl
behind_are (high ∷ low ∷ bytes) = ap (λ rest. 58 ∷ (hex_text (high ∷ low ∷ []) ++ rest)) (behind_are bytes)

pair_small : (high low : ℕ) (bytes : List ℕ) → AreBytes (high ∷ low ∷ bytes) → AreBytes (high ∷ low ∷ [])
pair_small high low bytes small = (small.0, (small.1.0, tt))

-- no group has a colon, nor a space
no_colons : (bytes : List ℕ) → AreBytes bytes → AllByRecursion (Lacks 58) (group_words bytes)
no_colons [] small = tt
no_colons (byte ∷ []) small = tt
no_colons (high ∷ low ∷ bytes) small = (hex_lacks_colon (high ∷ low ∷ []) (pair_small high low bytes small), no_colons bytes small.1.1)

no_spaces : (bytes : List ℕ) → AreBytes bytes → AllByRecursion (Lacks 32) (group_words bytes)
no_spaces [] small = tt
no_spaces (byte ∷ []) small = tt
no_spaces (high ∷ low ∷ bytes) small = (hex_lacks_space (high ∷ low ∷ []) (pair_small high low bytes small), no_spaces bytes small.1.1)

-- the text of an address has no space
pub groups_lack_space : (bytes : List ℕ) → AreBytes bytes → Lacks 32 (groups_text bytes)
unfolding groups_text
groups_lack_space [] small = tt
groups_lack_space (byte ∷ []) small = tt
groups_lack_space (high ∷ low ∷ bytes) small =
    lacks_both 32 (hex_text (high ∷ low ∷ [])) (groups_behind bytes) (hex_lacks_space (high ∷ low ∷ []) (pair_small high low bytes small))
    (rw (behind_are bytes) (lacks_words 32 58 (group_words bytes) refl (no_spaces bytes small.1.1)))

-- ---- groups

four_digits : (high low : ℕ) → hex_text (high ∷ low ∷ []) ≡ slice_index lower_digits (high / 16) ∷ slice_index lower_digits (high % 16) ∷ slice_index lower_digits (low / 16) ∷ slice_index lower_digits (low % 16) ∷ []
unfolding hex_text encode_with
four_digits high low = refl

group_back : (high low : ℕ) → AreBytes (high ∷ low ∷ []) → group_of (hex_text (high ∷ low ∷ [])) ≡ Some (high ∷ low ∷ [])
unfolding group_of hex_text encode_with
group_back high low small = ap result_ok (decode_sized-encode_lower (high ∷ low ∷ []) 2 refl (index_small (high ∷ low ∷ []) small))

groups_back : (done bytes : List ℕ) → ArePairs bytes → AreBytes bytes → groups_from done (group_words bytes) ≡ Some (done ++ bytes)
unfolding groups_from
groups_back done [] are small = ap Some (sym (append-nil done))
groups_back done (byte ∷ []) are small = absurd are
groups_back done (high ∷ low ∷ bytes) are small =
    rw (group_back high low (pair_small high low bytes small))
    (groups_back (done ++ high ∷ low ∷ []) bytes are small.1.1 ∙ ap Some (append_assoc done (high ∷ low ∷ []) bytes))

-- ---- no `::`

past : (colon : Bool) (seen byte : ℕ) (text : List ℕ) → nat_eq byte 58 ≡ false → double_from seen colon (byte ∷ text) ≡ double_from (seen + 1) false text
unfolding double_from
past true seen byte text other = rw other refl
past false seen byte text other = rw other refl

-- behind this text no `::` follows
abbrev NoneFollows : List ℕ → Type 0
NoneFollows text = (seen : ℕ) → double_from seen false text ≡ None

none_word : (word rest : List ℕ) → Lacks 58 word → NoneFollows rest → NoneFollows (word ++ rest)
none_word [] rest lacks none seen = none seen
none_word (byte ∷ word) rest lacks none seen = past false seen byte (word ++ rest) lacks.0 ∙ none_word word rest lacks.1 none (seen + 1)

none_begun : (colon : Bool) (word rest : List ℕ) (first : ℕ) (more : List ℕ) → word ≡ first ∷ more → Lacks 58 word → NoneFollows rest → (seen : ℕ) → double_from seen colon (word ++ rest) ≡ None
none_begun colon word rest first more is lacks none seen =
    let lack : Lacks 58 (first ∷ more) = subst (Lacks 58) is lacks in
    ap (λ (it : List ℕ). double_from seen colon (it ++ rest)) is ∙ past colon seen first (more ++ rest) lack.0 ∙ none_word more rest lack.1 none (seen + 1)

colon_first : (seen : ℕ) (text : List ℕ) → double_from seen false (58 ∷ text) ≡ double_from (seen + 1) true text
unfolding double_from
colon_first seen text = refl

none_behind : (bytes : List ℕ) → AreBytes bytes → NoneFollows (words_behind 58 (group_words bytes))
unfolding double_from
none_behind [] small seen = refl
none_behind (byte ∷ []) small seen = refl
none_behind (high ∷ low ∷ bytes) small seen =
    let pair = pair_small high low bytes small in
    colon_first seen (hex_text (high ∷ low ∷ []) ++ words_behind 58 (group_words bytes))
    ∙ none_begun true (hex_text (high ∷ low ∷ [])) (words_behind 58 (group_words bytes)) _ _ (four_digits high low) (hex_lacks_colon (high ∷ low ∷ []) pair) (none_behind bytes small.1.1) (seen + 1)

-- ---- the address

some_text : (text first : List ℕ) (digit : ℕ) (more rest : List ℕ) → text ≡ first ++ rest → first ≡ digit ∷ more → nat_eq (length text) 0 ≡ false
some_text text first digit more rest is begins = rw (is, begins) (grind (arith, nat_tests))

of_split : (text : List ℕ) (words : List (List ℕ)) (bytes : List ℕ) → nat_eq (length text) 0 ≡ false → slice_split (λ byte. nat_eq byte 58) text ≡ words → groups_from [] words ≡ Some bytes
    → groups_of text ≡ Some bytes
unfolding groups_of
of_split text words bytes some are found = rw (some, are) found

whole : (text bytes : List ℕ) → groups_of text ≡ Some bytes → nat_eq (length bytes) 16 ≡ true → whole_groups text ≡ Some bytes
unfolding whole_groups
whole text bytes found size = rw (found, size) refl

without_cut : (text bytes : List ℕ) → double_from 0 false text ≡ None → whole_groups text ≡ Some bytes → long_address_of text ≡ Some bytes
unfolding long_address_of
without_cut text bytes none found = rw none found

text_is : (high low : ℕ) (bytes : List ℕ) → groups_text (high ∷ low ∷ bytes) ≡ hex_text (high ∷ low ∷ []) ++ words_behind 58 (group_words bytes)
unfolding groups_text
text_is high low bytes = ap (λ rest. hex_text (high ∷ low ∷ []) ++ rest) (behind_are bytes)

long_address_back : (bytes : List ℕ) → nat_eq (length bytes) 16 ≡ true → ArePairs bytes → AreBytes bytes → long_address_of (groups_text bytes) ≡ Some bytes
long_address_back [] size are small = absurd (cc)
long_address_back (byte ∷ []) size are small = absurd are
long_address_back (high ∷ low ∷ bytes) size are small =
    let pair = pair_small high low bytes small in
    let text : List ℕ = hex_text (high ∷ low ∷ []) ++ words_behind 58 (group_words bytes) in
    ap long_address_of (text_is high low bytes)
    ∙ without_cut text (high ∷ low ∷ bytes)
    (none_begun false (hex_text (high ∷ low ∷ [])) (words_behind 58 (group_words bytes)) _ _ (four_digits high low) (hex_lacks_colon (high ∷ low ∷ []) pair) (none_behind bytes small.1.1) 0)
    (whole text (high ∷ low ∷ bytes)
    (of_split text (hex_text (high ∷ low ∷ []) ∷ group_words bytes) (high ∷ low ∷ bytes)
    (some_text text (hex_text (high ∷ low ∷ [])) _ _ (words_behind 58 (group_words bytes)) refl (four_digits high low))
    (split_joined 58 (hex_text (high ∷ low ∷ [])) (group_words bytes) (no_colons (high ∷ low ∷ bytes) small))
    (groups_back [] (high ∷ low ∷ bytes) are small)) size)

pub long_address_read_back : LongAddressesAreReadBack
long_address_read_back bytes size small =
    let is : nat_eq (length bytes) 16 ≡ true = grind (arith, nat_tests) in long_address_back bytes is (pairs 8 bytes size) small
