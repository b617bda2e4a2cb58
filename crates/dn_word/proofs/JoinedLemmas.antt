-- Words joined by a byte that none of them has are the parts between it.
use Rattle.std.proofs.Common.{◌≡◌, ℕ, ◌<◌, true, false, nat_eq, List, [], ◌∷◌, ◌++◌, ap, ◌∙◌, arith, append-nil}
use Rattle.std.specs.Int.{IsInRange}
use Rattle.std.specs.List.{AllByRecursion, slice_split}
use Rattle.std.proofs.lemmas.Bool.Decides.{nat_tests}
use Rattle.std.proofs.lemmas.List.Elements.{All-from_recursion}
use Rattle.std.proofs.lemmas.List.Splits.{slice_split_at, slice_split_none}

-- no byte of the word is this one
abbrev pub Lacks : ℕ → List ℕ → Type 0
Lacks byte word = AllByRecursion (λ other. nat_eq other byte ≡ false) word

-- words, each behind a separator
abbrev pub words_behind : ℕ → List (List ℕ) → List ℕ
words_behind separator [] = []
words_behind separator (word ∷ words) = separator ∷ (word ++ words_behind separator words)

pub lacks_both : (byte : ℕ) (first second : List ℕ) → Lacks byte first → Lacks byte second → Lacks byte (first ++ second)
lacks_both byte [] second lacks more = more
lacks_both byte (other ∷ first) second lacks more = (lacks.0, lacks_both byte first second lacks.1 more)

-- a byte that is neither the separator nor in a word isn't in the words behind it
pub lacks_words : (byte separator : ℕ) (words : List (List ℕ)) → nat_eq separator byte ≡ false → AllByRecursion (Lacks byte) words → Lacks byte (words_behind separator words)
lacks_words byte separator [] other lack = tt
lacks_words byte separator (word ∷ words) other lack =
    (other, lacks_both byte word (words_behind separator words) lack.0 (lacks_words byte separator words other lack.1))

-- digits lack each byte before the first of them
pub digits_lack : (byte : ℕ) (word : List ℕ) → byte < 48 → AllByRecursion (IsInRange 48 57) word → Lacks byte word
digits_lack byte [] below are = tt
digits_lack byte (digit ∷ word) below are = (grind (arith, nat_tests, are.0), digits_lack byte word below are.1)

itself : (byte : ℕ) → nat_eq byte byte ≡ true
itself byte = grind (arith, nat_tests)

-- the parts between the separators are the words
pub split_joined : (separator : ℕ) (word : List ℕ) (words : List (List ℕ)) → AllByRecursion (Lacks separator) (word ∷ words)
    → slice_split (λ byte. nat_eq byte separator) (word ++ words_behind separator words) ≡ word ∷ words
split_joined separator word [] lack =
    ap (slice_split (λ byte. nat_eq byte separator)) (append-nil word)
    ∙ slice_split_none (λ byte. nat_eq byte separator) word (All-from_recursion (λ byte. nat_eq byte separator ≡ false) word lack.0)
split_joined separator word (next ∷ words) lack =
    slice_split_at (λ byte. nat_eq byte separator) word separator (next ++ words_behind separator words)
    (All-from_recursion (λ byte. nat_eq byte separator ≡ false) word lack.0) (itself separator)
    ∙ ap (λ parts. word ∷ parts) (split_joined separator next words lack.1)
