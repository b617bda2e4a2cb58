-- What reading one byte, one dot or the end of a text does to the name that it completes.
use Rattle.std.proofs.Common.{◌≡◌, ℕ, ◌+◌, ◌-◌, ◌*◌, ◌≤◌, ◌<◌, ◌&&◌, Bool, true, false, nat_eq, nat_le, cond, List, [], ◌∷◌, ◌++◌, length, Option, None, Some, refl, sym, ◌∙◌, ap, arith, append_assoc, append-nil, length-append}
use Rattle.std.specs.Prelude.{option_and_then}
use Rattle.std.specs.List.{list_all, AllByRecursion}
use lib.Pointwise.{pointwise}
use Rattle.dn_name.specs.Name.{Labels, wire_len, IsLabel, IsName, is_label, is_name}
use Rattle.dn_name.specs.Reading.{byte_in, glued, completed}
use Rattle.dn_name.specs.Text.{Symbol, Dot, Byte, Escape, Outside, Begun, OneDigit, TwoDigits, is_digit, then_symbol, symbols_from, on_first, labels_between, without_last_empty, name_if, name_of_text}

-- ---- symbols

abbrev behind_byte : (ℕ × List ℕ) → Option (List Symbol)
behind_byte found = then_symbol (Byte found.0) (symbols_from Outside found.1)

-- behind a backslash the symbols begin with the byte that is escaped
abbrev Begins : Escape → List ℕ → Type 0
Begins state text = symbols_from state text ≡ option_and_then behind_byte (byte_in state text)

two_digits : (n : ℕ) (text : List ℕ) → Begins (TwoDigits n) text
two_digits n [] = refl
two_digits n (b ∷ text) =
    elim (is_digit b && nat_le (10 * n + (b - 48)) 255)
    as (λ v. cond v (then_symbol (Byte (10 * n + (b - 48))) (symbols_from Outside text)) None ≡ option_and_then behind_byte (cond v (Some (10 * n + (b - 48), text)) None))
    [ true ↦ refl | false ↦ refl ]

one_digit : (n : ℕ) (text : List ℕ) → Begins (OneDigit n) text
one_digit n [] = refl
one_digit n (b ∷ text) =
    elim (is_digit b)
    as (λ v. cond v (symbols_from (TwoDigits (10 * n + (b - 48))) text) None ≡ option_and_then behind_byte (cond v (byte_in (TwoDigits (10 * n + (b - 48))) text) None))
    [ true ↦ two_digits (10 * n + (b - 48)) text | false ↦ refl ]

plain_byte : (v : Bool) (b : ℕ) (text : List ℕ) → cond v (then_symbol (Byte b) (symbols_from Outside text)) None ≡ option_and_then behind_byte (cond v (Some (b, text)) None)
plain_byte true b text = refl
plain_byte false b text = refl

begun : (text : List ℕ) → Begins Begun text
begun [] = refl
begun (b ∷ text) =
    elim (is_digit b)
    as (λ v. cond v (symbols_from (OneDigit (b - 48)) text) (cond (nat_le 32 b && nat_le b 126) (then_symbol (Byte b) (symbols_from Outside text)) None)
    ≡ option_and_then behind_byte (cond v (byte_in (OneDigit (b - 48)) text) (cond (nat_le 32 b && nat_le b 126) (Some (b, text)) None)))
    [ true ↦ one_digit (b - 48) text | false ↦ plain_byte (nat_le 32 b && nat_le b 126) b text ]

-- a text that doesn't begin with a dot
outside : (b : ℕ) (text : List ℕ) → nat_eq b 46 ≡ false → Begins Outside (b ∷ text)
outside b text no_dot =
    rw no_dot (elim (nat_eq b 92)
    as (λ v. cond v (symbols_from Begun text) (cond (nat_le 33 b && nat_le b 126) (then_symbol (Byte b) (symbols_from Outside text)) None)
    ≡ option_and_then behind_byte (cond v (byte_in Begun text) (cond (nat_le 33 b && nat_le b 126) (Some (b, text)) None)))
    [ true ↦ begun text | false ↦ plain_byte (nat_le 33 b && nat_le b 126) b text ])

-- ---- labels

more_labels : (label next : List ℕ) (labels : Labels) → without_last_empty (label ∷ (next ∷ labels)) ≡ label ∷ without_last_empty (next ∷ labels)
more_labels [] next labels = refl
more_labels (b ∷ bytes) next labels = refl

behind_front : (done : Labels) (label : List ℕ) (labels : Labels) → without_last_empty (done ++ (label ∷ labels)) ≡ done ++ without_last_empty (label ∷ labels)
behind_front [] label labels = refl
behind_front (first ∷ []) label labels = more_labels first label labels
behind_front (first ∷ (second ∷ done)) label labels =
    more_labels first second (done ++ (label ∷ labels)) ∙ ap (λ more. first ∷ more) (behind_front (second ∷ done) label labels)

behind_full : (b : ℕ) (bytes : List ℕ) (labels : Labels) → without_last_empty ((b ∷ bytes) ∷ labels) ≡ (b ∷ bytes) ∷ without_last_empty labels
behind_full b bytes [] = refl
behind_full b bytes (next ∷ labels) = refl

glued_first : (label : List ℕ) (byte : ℕ) (labels : Labels) → glued label (on_first byte labels) ≡ glued (label ++ (byte ∷ [])) labels
glued_first label byte [] = refl
glued_first label byte (first ∷ labels) = ap (λ x. x ∷ labels) (sym (append_assoc label (byte ∷ []) first))

glued_none : (symbols : List Symbol) → glued [] (labels_between symbols) ≡ labels_between symbols
glued_none [] = refl
glued_none (Dot ∷ symbols) = refl
glued_none (Byte byte ∷ symbols) = elim (labels_between symbols) as (λ v. glued [] (on_first byte v) ≡ on_first byte v) [ [] ↦ refl | label ∷ labels ↦ refl ]

no_name : (labels : Labels) → is_name labels ≡ false → name_if labels ≡ None
no_name [] bad = refl
no_name (label ∷ labels) bad = rw bad refl

and_false : (v : Bool) → (v && false) ≡ false
and_false true = refl
and_false false = refl

not_all : (done : Labels) (x : List ℕ) (xs : Labels) → is_label x ≡ false → list_all is_label (done ++ (x ∷ xs)) ≡ false
not_all [] x xs bad = rw bad refl
not_all (first ∷ done) x xs bad = rw (not_all done x xs bad) (and_false (is_label first))

bad_label : (done : Labels) (x : List ℕ) (xs : Labels) → is_label x ≡ false → is_name (done ++ (x ∷ xs)) ≡ false
bad_label done x xs bad = rw (not_all done x xs bad) refl

pub wire_len_least : (labels : Labels) → 1 ≤ wire_len labels
wire_len_least [] = omega arith
wire_len_least (label ∷ labels) = omega (arith, wire_len_least labels)

pub wire_len-append : (done labels : Labels) → wire_len (done ++ labels) + 1 ≡ wire_len done + wire_len labels
wire_len-append [] labels = omega arith
wire_len-append (first ∷ done) labels = omega (arith, wire_len-append done labels)

bad_len : (labels : Labels) → 255 < wire_len labels → is_name labels ≡ false
bad_len labels long = let no : nat_le (wire_len labels) 255 ≡ false = grind arith in rw no (and_false (list_all is_label labels))

-- ---- the name that is completed

-- one byte
at_byte : (done : Labels) (label : List ℕ) (b : ℕ) (text : List ℕ) (byte : ℕ) (rest : List ℕ) → nat_eq b 46 ≡ false
    → Some (byte, rest) ≡ byte_in Outside (b ∷ text) → completed done label (b ∷ text) ≡ completed done (label ++ (byte ∷ [])) rest
unfolding completed
at_byte done label b text byte rest no_dot is =
    rw (outside b text no_dot, ← is) (
    elim (symbols_from Outside rest)
    as (λ v. option_and_then (λ symbols. name_if (without_last_empty (done ++ glued label (labels_between symbols)))) (then_symbol (Byte byte) v)
    ≡ option_and_then (λ symbols. name_if (without_last_empty (done ++ glued (label ++ (byte ∷ [])) (labels_between symbols)))) v)
    [ None ↦ refl | Some symbols ↦ ap (λ x. name_if (without_last_empty (done ++ x))) (glued_first label byte (labels_between symbols)) ])

by_byte : (done : Labels) (label : List ℕ) (b : ℕ) (text : List ℕ) (byte : ℕ) (rest : List ℕ) (v : Bool) → nat_eq b 46 ≡ v
    → Some (byte, rest) ≡ byte_in Outside (b ∷ text) → completed done label (b ∷ text) ≡ completed done (label ++ (byte ∷ [])) rest
by_byte done label b text byte rest true dot is = let none : Option (ℕ × List ℕ) = None in let e : Some (byte, rest) ≡ none = rw dot at is in cc
by_byte done label b text byte rest false dot is = at_byte done label b text byte rest dot is

pub reads_byte : (done : Labels) (label text : List ℕ) (byte : ℕ) (rest : List ℕ)
    → Some (byte, rest) ≡ byte_in Outside text → completed done label text ≡ completed done (label ++ (byte ∷ [])) rest
reads_byte done label [] byte rest is = cc
reads_byte done label (b ∷ text) byte rest is = by_byte done label b text byte rest (nat_eq b 46) refl is

-- a front that is no byte and no dot
pub reads_nothing : (done : Labels) (label : List ℕ) (b : ℕ) (text : List ℕ) → nat_eq b 46 ≡ false
    → None ≡ byte_in Outside (b ∷ text) → completed done label (b ∷ text) ≡ None
unfolding completed
reads_nothing done label b text no_dot is = rw (outside b text no_dot, ← is) refl

-- a dot
pub reads_dot : (done : Labels) (label rest : List ℕ) → completed done label (46 ∷ rest) ≡ completed (done ++ (label ∷ [])) [] rest
unfolding completed
reads_dot done label rest =
    elim (symbols_from Outside rest)
    as (λ v. option_and_then (λ symbols. name_if (without_last_empty (done ++ glued label (labels_between symbols)))) (then_symbol Dot v)
    ≡ option_and_then (λ symbols. name_if (without_last_empty ((done ++ (label ∷ [])) ++ glued [] (labels_between symbols)))) v) [
      | None ↦ refl
      | Some symbols ↦
          let e : done ++ ((label ++ []) ∷ labels_between symbols) ≡ (done ++ (label ∷ [])) ++ glued [] (labels_between symbols) =
          rw (append-nil label, glued_none symbols) (sym (append_assoc done (label ∷ []) (labels_between symbols))) in
          ap (λ x. name_if (without_last_empty x)) e
    ]

-- the end behind a label
pub reads_end : (done : Labels) (label : List ℕ) → 1 ≤ length label → completed done label [] ≡ completed (done ++ (label ∷ [])) [] []
unfolding completed
reads_end done [] some = absurd (omega arith)
reads_end done (b ∷ bytes) some =
    let left : without_last_empty (done ++ (((b ∷ bytes) ++ []) ∷ [])) ≡ done ++ ((b ∷ bytes) ∷ []) =
    rw append-nil (behind_front done (b ∷ bytes) []) in
    let right : without_last_empty ((done ++ ((b ∷ bytes) ∷ [])) ++ ([] ∷ [])) ≡ done ++ ((b ∷ bytes) ∷ []) =
    behind_front (done ++ ((b ∷ bytes) ∷ [])) [] [] ∙ append-nil (done ++ ((b ∷ bytes) ∷ [])) in
    ap name_if (left ∙ sym right)

empty_label : (done : Labels) (labels : Labels) (symbols : List Symbol) → labels_between symbols ≡ labels
    → name_if (without_last_empty (done ++ ([] ∷ labels_between symbols))) ≡ None
empty_label done [] [] is = cc
empty_label done [] (Dot ∷ symbols) is = cc
empty_label done [] (Byte byte ∷ symbols) is =
    absurd (let P : Labels → Type 0 = λ v. on_first byte v ≡ [] → ⊥ in elim (labels_between symbols) as P [ [] ↦ λ h. cc | label ∷ labels ↦ λ h. cc ] is)
empty_label done (label ∷ labels) symbols is =
    rw (is, behind_front done [] (label ∷ labels))
    (no_name (done ++ ([] ∷ without_last_empty (label ∷ labels))) (bad_label done [] (without_last_empty (label ∷ labels)) refl))

-- a dot where a label would begin
pub reads_empty : (done : Labels) (rest : List ℕ) → completed done [] (46 ∷ rest) ≡ None
unfolding completed
reads_empty done rest =
    elim (symbols_from Outside rest)
    as (λ v. option_and_then (λ symbols. name_if (without_last_empty (done ++ glued [] (labels_between symbols)))) (then_symbol Dot v) ≡ None)
    [ None ↦ refl | Some symbols ↦ empty_label done (labels_between symbols) symbols refl ]

-- bytes after which no name follows
too_much : (done : Labels) (b : ℕ) (bytes text : List ℕ)
    → ((more : List ℕ) (xs : Labels) → is_name (done ++ ((b ∷ (bytes ++ more)) ∷ xs)) ≡ false) → completed done (b ∷ bytes) text ≡ None
unfolding completed
too_much done b bytes text bad =
    elim (symbols_from Outside text)
    as (λ v. option_and_then (λ symbols. name_if (without_last_empty (done ++ glued (b ∷ bytes) (labels_between symbols)))) v ≡ None) [
      | None ↦ refl
      | Some symbols ↦
          elim (labels_between symbols) as (λ v. name_if (without_last_empty (done ++ glued (b ∷ bytes) v)) ≡ None) [
            | [] ↦ rw (behind_front done (b ∷ bytes) []) (no_name (done ++ ((b ∷ bytes) ∷ [])) (rw (append-nil bytes) at (bad [] [])))
            | label ∷ labels ↦
                rw (behind_front done (b ∷ (bytes ++ label)) labels, behind_full b (bytes ++ label) labels)
                (no_name (done ++ ((b ∷ (bytes ++ label)) ∷ without_last_empty labels)) (bad label (without_last_empty labels)))
          ]
    ]

pub label_too_long : (done : Labels) (label text : List ℕ) → 63 < length label → completed done label text ≡ None
label_too_long done [] text long = absurd (omega arith)
label_too_long done (b ∷ bytes) text long =
    too_much done b bytes text (λ more xs. bad_label done (b ∷ (bytes ++ more)) xs
    (let no : nat_le (length (b ∷ (bytes ++ more))) 63 ≡ false = grind (arith, length-append bytes more) in rw no (and_false (nat_le 1 (length (b ∷ (bytes ++ more)))))))

pub name_too_long : (done : Labels) (label text : List ℕ) → 1 ≤ length label → 255 < wire_len done + length label + 1 → completed done label text ≡ None
name_too_long done [] text some long = absurd (omega arith)
name_too_long done (b ∷ bytes) text some long =
    too_much done b bytes text (λ more xs. bad_len (done ++ ((b ∷ (bytes ++ more)) ∷ xs))
    (omega (arith, wire_len-append done ((b ∷ (bytes ++ more)) ∷ xs), length-append bytes more, wire_len_least xs)))

all_labels : (name : Labels) → AllByRecursion IsLabel name → list_all is_label name ≡ true
all_labels [] all = refl
all_labels (label ∷ name) all =
    let low : nat_le 1 (length label) ≡ true = grind (arith, all.0.0) in
    let high : nat_le (length label) 63 ≡ true = grind (arith, all.0.1) in
    rw (low, high, all_labels name all.1) refl

-- the end of a text behind labels that make a name
pub reads_all : (done : Labels) → IsName done → 1 < wire_len done → completed done [] [] ≡ Some done
unfolding completed
reads_all [] is some = absurd (omega arith)
reads_all (label ∷ done) is some =
    let fits : nat_le (wire_len (label ∷ done)) 255 ≡ true = grind (arith, is.1) in
    rw (behind_front (label ∷ done) [] [], append-nil done, all_labels (label ∷ done) is.0, fits) refl

pub reads_none : (done : Labels) → wire_len done ≤ 1 → completed done [] [] ≡ None
unfolding completed
reads_none [] few = refl
reads_none (label ∷ done) few = absurd (omega (arith, wire_len_least done))

-- a text other than a dot alone
pub begins : (text : List ℕ) → pointwise nat_eq text (46 ∷ []) ≡ false → name_of_text text ≡ completed [] [] text
unfolding completed
begins text other =
    rw other (
    elim (symbols_from Outside text)
    as (λ v. option_and_then (λ symbols. name_if (without_last_empty (labels_between symbols))) v
    ≡ option_and_then (λ symbols. name_if (without_last_empty (glued [] (labels_between symbols)))) v)
    [ None ↦ refl | Some symbols ↦ ap (λ x. name_if (without_last_empty x)) (sym (glued_none symbols)) ])
