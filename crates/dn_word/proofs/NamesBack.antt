-- Reading the text of a name gives the name, and there is no space in it.
use Rattle.std.proofs.Common.{◌≡◌, ℕ, ◌+◌, ◌/◌, ◌%◌, Bool, true, false, cond, nat_eq, List, [], ◌∷◌, Some, refl, arith}
use Rattle.std.proofs.lemmas.Bool.Decides.{nat_tests}
use Rattle.dn_name.specs.Name.{IsName, Labels}
use Rattle.dn_name.specs.Text.{AllBytes, byte_text, dotted, is_plain, label_text, text_of, three_digits}
use Rattle.dn_name.proofs.CallerLemmas.{read_back}
use Rattle.dn_word.specs.Names.{name_word}
use Rattle.dn_word.proofs.JoinedLemmas.{Lacks, lacks_both}

-- a name of bytes is read back from its text
pub name_read_back : (name : Labels) → IsName name → AllBytes name → name_word (text_of name) ≡ Some name
unfolding name_word
name_read_back name is small = read_back name is small

digit_lacks : (n : ℕ) → nat_eq (48 + n) 32 ≡ false
digit_lacks n = grind (arith, nat_tests)

byte_lacks : (byte : ℕ) (plain : Bool) → is_plain byte ≡ plain → Lacks 32 (cond plain (byte ∷ []) (92 ∷ three_digits byte))
byte_lacks byte true is = (grind (arith, nat_tests), tt)
byte_lacks byte false is = (refl, (digit_lacks (byte / 100), (digit_lacks (byte / 10 % 10), (digit_lacks (byte % 10), tt))))

label_lacks : (label : List ℕ) → Lacks 32 (label_text label)
label_lacks [] = tt
label_lacks (byte ∷ label) = lacks_both 32 (byte_text byte) (label_text label) (byte_lacks byte (is_plain byte) refl) (label_lacks label)

dotted_lacks : (name : Labels) → Lacks 32 (dotted name)
dotted_lacks [] = tt
dotted_lacks (label ∷ name) = (refl, lacks_both 32 (label_text label) (dotted name) (label_lacks label) (dotted_lacks name))

-- the text of a name has no space
pub name_lacks_space : (name : Labels) → Lacks 32 (text_of name)
name_lacks_space [] = (refl, tt)
name_lacks_space (label ∷ name) = lacks_both 32 (label_text label) (dotted name) (label_lacks label) (dotted_lacks name)
