-- The words and numbers behind labels are read back.
use Rattle.std.proofs.Common.{◌≡◌, ℕ, ◌^◌, ◌<◌, ◌≤◌, Bool, true, false, not, nat_eq, List, [], ◌∷◌, ◌++◌, Option, Some, refl, ◌∙◌, arith}
use Rattle.std.specs.Fmt.{decimal}
use Rattle.std.specs.List.{list_all}
use Rattle.std.proofs.lemmas.Bool.{and_parts}
use Rattle.std.proofs.lemmas.Bool.Decides.{nat_tests}
use Rattle.std.proofs.Math.Seq.{take-append_seam, drop-append_seam}
use Rattle.dn_io.specs.Options.{◌>>=◌}
use Rattle.dn_word.specs.Words.{is_word}
use Rattle.dn_word.proofs.CallerLemmas.{Lacks, decimal_lacks, number_read_back}
use Rattle.dn_text.specs.Labelled.{behind_label, cut_at_space, number_behind, word_behind}

-- a value that is there is handed on
pub handed_on : {A B : Type 0} (found : Option A) (value : A) (go_on : A → Option B) → found ≡ Some value → (found >>= go_on) ≡ go_on value
handed_on found value go_on is = rw is refl

itself : (byte : ℕ) → nat_eq byte byte ≡ true
itself byte = grind (arith, nat_tests)

pub is_itself : (word : List ℕ) → is_word word word ≡ true
is_itself [] = refl
is_itself (byte ∷ word) = rw (itself byte, is_itself word) refl

is_false : (b : Bool) → not b ≡ true → b ≡ false
is_false true is = absurd (cc)
is_false false is = refl

-- a word of which a test says so has no space
pub lacks_by : (word : List ℕ) → list_all (λ byte. not (nat_eq byte 32)) word ≡ true → Lacks 32 word
lacks_by [] is = tt
lacks_by (byte ∷ word) is =
    let parts = and_parts (not (nat_eq byte 32)) (list_all (λ other. not (nat_eq other 32)) word) is in (is_false (nat_eq byte 32) parts.0, lacks_by word parts.1)

pub label_back : (label rest : List ℕ) → behind_label label (label ++ rest) ≡ Some rest
unfolding behind_label
label_back label rest = rw (take-append_seam label rest, drop-append_seam label rest, is_itself label) refl

cut_back : (word rest : List ℕ) → Lacks 32 word → cut_at_space (word ++ (32 ∷ rest)) ≡ Some (word, rest)
unfolding cut_at_space
cut_back [] rest lacks = refl
cut_back (byte ∷ word) rest lacks = rw (lacks.0, cut_back word rest lacks.1) refl

-- a word without a space is read back
pub word_back : (label word rest : List ℕ) → Lacks 32 word → word_behind label (label ++ (word ++ (32 ∷ rest))) ≡ Some (word, rest)
unfolding word_behind
word_back label word rest lacks =
    handed_on (behind_label label (label ++ (word ++ (32 ∷ rest)))) (word ++ (32 ∷ rest)) cut_at_space (label_back label (word ++ (32 ∷ rest))) ∙ cut_back word rest lacks

-- and so is a number
pub number_back : (label : List ℕ) (most n : ℕ) (rest : List ℕ) → n ≤ most → n < 2 ^ 64 → number_behind label most (label ++ (decimal n ++ (32 ∷ rest))) ≡ Some (n, rest)
unfolding number_behind
number_back label most n rest below fits =
    rw (word_back label (decimal n) rest (decimal_lacks 32 n (omega arith) fits), number_read_back most n below fits) refl
