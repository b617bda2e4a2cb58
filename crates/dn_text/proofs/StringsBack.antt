-- Reading the text of strings gives the strings.
use Rattle.std.proofs.Common.{◌≡◌, ℕ, suc, ◌+◌, ◌-◌, ◌*◌, ◌/◌, ◌%◌, ◌≤◌, ◌<◌, Bool, true, false, cond, ◌&&◌, ◌||◌, nat_eq, nat_le, List, [], ◌∷◌, ◌++◌, length, Option, Some, refl, sym, ap, ◌∙◌, arith, append_assoc, append-nil}
use Rattle.std.specs.List.{AllByRecursion}
use Rattle.std.proofs.lemmas.Bool.{le-leb}
use Rattle.std.proofs.lemmas.Bool.Decides.{nat_tests}
use Rattle.dn_name.specs.Text.{three_digits}
use Rattle.dn_rdata.specs.Layout.{text_bytes, texts_bytes}
use Rattle.dn_text.specs.Laws.{IsString, StringsAreReadBack}
use Rattle.dn_word.specs.Numbers.{is_digit}
use Rattle.dn_text.specs.Strings.{open_text, string_byte, strings_from, strings_of, strings_text, turn_at, turned, with_digit}
use Rattle.dn_word.specs.Words.{is_blank}
use Rattle.dn_text.specs.declared.quoted.Place.{Place}
use Rattle.dn_text.specs.declared.quoted.Place.TheVariants.{Start, Inside, Escaped, OneDigit, TwoDigits, Behind}
use Rattle.dn_text.specs.declared.quoted.Turn.{Turn}
use Rattle.dn_text.specs.declared.quoted.Turn.TheVariants.{Goes, Spells, Ends}

-- ---- a byte

-- a step over one byte, whose turn is known
one_step : (place : Place) (done begun : List ℕ) (byte : ℕ) (rest : List ℕ) (turn : Option Turn) → turn_at place byte ≡ turn
    → strings_from place done begun (byte ∷ rest) ≡ turned turn done begun (λ next closed string. strings_from next closed string rest)
unfolding strings_from
one_step place done begun byte rest turn is = rw is refl

digit : (d : ℕ) → d ≤ 9 → is_digit (48 + d) ≡ true
digit d small =
    let low : nat_le 48 (48 + d) ≡ true = grind arith in
    let high : nat_le (48 + d) 57 ≡ true = grind arith in rw (low, high) refl

-- one more digit
more_digit : (x d n : ℕ) → d ≤ 9 → 10 * x + d ≡ n → n < 256 → with_digit x (48 + d) ≡ Some n
more_digit x d n small sum fits =
    let e : 10 * x + (48 + d - 48) ≡ n = omega arith in
    let below : nat_le n 255 ≡ true = grind arith in
    rw (digit d small, e, below) refl

first_turn : (x : ℕ) → x ≤ 9 → turn_at Escaped (48 + x) ≡ Some (Goes (OneDigit x))
unfolding turn_at
first_turn x small = let e : 48 + x - 48 ≡ x = omega arith in rw (digit x small, e) refl

second_turn : (x y n : ℕ) → y ≤ 9 → 10 * x + y ≡ n → n < 256 → turn_at (OneDigit x) (48 + y) ≡ Some (Goes (TwoDigits n))
unfolding turn_at
second_turn x y n small sum fits = rw (more_digit x y n small sum fits) refl

third_turn : (x y n : ℕ) → y ≤ 9 → 10 * x + y ≡ n → n < 256 → turn_at (TwoDigits x) (48 + y) ≡ Some (Spells n)
unfolding turn_at
third_turn x y n small sum fits = rw (more_digit x y n small sum fits) refl

-- three digits behind a backslash
three_steps : (done begun : List ℕ) (x y z n : ℕ) (rest : List ℕ) → x ≤ 9 → y ≤ 9 → z ≤ 9 → 100 * x + 10 * y + z ≡ n → n < 256
    → strings_from Escaped done begun ((48 + x) ∷ ((48 + y) ∷ ((48 + z) ∷ rest))) ≡ strings_from Inside done (begun ++ n ∷ []) rest
three_steps done begun x y z n rest small_x small_y small_z sum fits =
    one_step Escaped done begun (48 + x) ((48 + y) ∷ ((48 + z) ∷ rest)) (Some (Goes (OneDigit x))) (first_turn x small_x)
    ∙ one_step (OneDigit x) done begun (48 + y) ((48 + z) ∷ rest) (Some (Goes (TwoDigits (10 * x + y)))) (second_turn x y (10 * x + y) small_y refl (omega arith))
    ∙ one_step (TwoDigits (10 * x + y)) done begun (48 + z) rest (Some (Spells n)) (third_turn (10 * x + y) z n small_z (omega arith) fits)

backslash : turn_at Inside 92 ≡ Some (Goes Escaped)
unfolding turn_at
backslash = refl

escaped : (done begun : List ℕ) (byte : ℕ) (rest : List ℕ) → byte < 256 → strings_from Inside done begun (92 ∷ (three_digits byte ++ rest)) ≡ strings_from Inside done (begun ++ byte ∷ []) rest
escaped done begun byte rest small =
    one_step Inside done begun 92 (three_digits byte ++ rest) (Some (Goes Escaped)) backslash
    ∙ three_steps done begun (byte / 100) (byte / 10 % 10) (byte % 10) byte rest (omega arith) (omega arith) (omega arith) (omega arith) small

quoted_turn : (byte : ℕ) → (nat_eq byte 34 || nat_eq byte 92) ≡ true → turn_at Escaped byte ≡ Some (Spells byte)
unfolding turn_at
quoted_turn byte is =
    let low : is_digit byte ≡ false = grind (arith, nat_tests) in
    let printable : (nat_le 32 byte && nat_le byte 126) ≡ true = grind (arith, nat_tests) in
    rw (low, printable) refl

plain_turn : (byte : ℕ) → (nat_eq byte 34 || nat_eq byte 92) ≡ false → (nat_le 32 byte && nat_le byte 126) ≡ true → turn_at Inside byte ≡ Some (Spells byte)
unfolding turn_at
plain_turn byte other is =
    let no_quote : nat_eq byte 34 ≡ false = grind (arith, nat_tests) in
    let no_slash : nat_eq byte 92 ≡ false = grind (arith, nat_tests) in
    let plain : (is_blank byte || (nat_le 33 byte && nat_le byte 126)) ≡ true = grind (arith, nat_tests) in
    rw (no_quote, no_slash, plain) refl

by_test : (done begun : List ℕ) (byte : ℕ) (rest : List ℕ) (special printable : Bool) → byte < 256 → (nat_eq byte 34 || nat_eq byte 92) ≡ special → (nat_le 32 byte && nat_le byte 126) ≡ printable
    → strings_from Inside done begun (cond special (92 ∷ byte ∷ []) (cond printable (byte ∷ []) (92 ∷ three_digits byte)) ++ rest) ≡ strings_from Inside done (begun ++ byte ∷ []) rest
by_test done begun byte rest true printable small is may =
    one_step Inside done begun 92 (byte ∷ rest) (Some (Goes Escaped)) backslash ∙ one_step Escaped done begun byte rest (Some (Spells byte)) (quoted_turn byte is)
by_test done begun byte rest false true small is may = one_step Inside done begun byte rest (Some (Spells byte)) (plain_turn byte is may)
by_test done begun byte rest false false small is may = escaped done begun byte rest small

byte_back : (done begun : List ℕ) (byte : ℕ) (rest : List ℕ) → byte < 256 → strings_from Inside done begun (string_byte byte ++ rest) ≡ strings_from Inside done (begun ++ byte ∷ []) rest
byte_back done begun byte rest small = by_test done begun byte rest (nat_eq byte 34 || nat_eq byte 92) (nat_le 32 byte && nat_le byte 126) small refl refl

-- ---- strings

open_more : (left byte : ℕ) (bytes : List ℕ) → open_text (suc left) (byte ∷ bytes) ≡ string_byte byte ++ open_text left bytes
unfolding open_text
open_more left byte bytes =
    let some : nat_eq (suc left) 0 ≡ false = grind (arith, nat_tests) in
    let less : suc left - 1 ≡ left = omega arith in rw (some, less) refl

-- the bytes of a string, up to its end
text_back : (done begun text back : List ℕ) → AllByRecursion (λ byte. byte < 256) text
    → strings_from Inside done begun (open_text (length text) (text ++ back)) ≡ strings_from Inside done (begun ++ text) (open_text 0 back)
unfolding open_text
text_back done begun [] back small = ap (λ xs. strings_from Inside done xs (open_text 0 back)) (sym (append-nil begun))
text_back done begun (byte ∷ text) back small =
    ap (λ xs. strings_from Inside done begun xs) (open_more (length text) byte (text ++ back))
    ∙ byte_back done begun byte (open_text (length text) (text ++ back)) small.0
    ∙ text_back done (begun ++ byte ∷ []) text back small.1
    ∙ ap (λ xs. strings_from Inside done xs (open_text 0 back)) (append_assoc begun (byte ∷ []) text)

quote : turn_at Inside 34 ≡ Some Ends
unfolding turn_at
quote = refl

-- the end of a string of at most 255 bytes
ends : (done text rest : List ℕ) → length text ≤ 255 → strings_from Inside done text (34 ∷ rest) ≡ strings_from Behind (done ++ text_bytes text) [] rest
ends done text rest fits =
    let short : nat_le (length text) 255 ≡ true = le-leb (length text) 255 fits in
    one_step Inside done text 34 rest (Some Ends) quote ∙ rw short refl

last_end : (done : List ℕ) → strings_from Behind done [] [] ≡ Some done
unfolding strings_from
last_end done = refl

next_begins : (done rest : List ℕ) → strings_from Behind done [] (32 ∷ (34 ∷ rest)) ≡ strings_from Inside done [] rest
unfolding strings_from turn_at
next_begins done rest = refl

all_back : (done text : List ℕ) (texts : List (List ℕ)) → AllByRecursion IsString (text ∷ texts)
    → strings_from Inside done [] (open_text (length text) (text ++ texts_bytes texts)) ≡ Some (done ++ texts_bytes (text ∷ texts))
unfolding open_text
all_back done text [] are =
    text_back done [] text [] are.0.1 ∙ ends done text [] are.0.0 ∙ last_end (done ++ text_bytes text)
    ∙ ap (λ xs. Some (done ++ xs)) (sym (append-nil (text_bytes text)))
all_back done text (next ∷ texts) are =
    text_back done [] text (texts_bytes (next ∷ texts)) are.0.1
    ∙ ends done text (32 ∷ (34 ∷ open_text (length next) (next ++ texts_bytes texts))) are.0.0
    ∙ next_begins (done ++ text_bytes text) (open_text (length next) (next ++ texts_bytes texts))
    ∙ all_back (done ++ text_bytes text) next texts are.1
    ∙ ap (λ xs. Some xs) (append_assoc done (text_bytes text) (texts_bytes (next ∷ texts)))

starts : (rest : List ℕ) → strings_from Start [] [] (34 ∷ rest) ≡ strings_from Inside [] [] rest
unfolding strings_from turn_at
starts rest = refl

pub strings_back : StringsAreReadBack
unfolding strings_of strings_text
strings_back text texts are = starts (open_text (length text) (text ++ texts_bytes texts)) ∙ all_back [] text texts are
