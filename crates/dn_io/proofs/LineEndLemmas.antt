-- Where the lines of a list of bytes end.
use Rattle.std.proofs.Common.{◌≡◌, ℕ, zero, suc, ◌+◌, ◌<◌, ◌≤◌, Bool, true, false, eqb, cond, get_or, List, [], ◌∷◌, ◌++◌, length, take, drop, refl, ap, add-one, arith}
use Rattle.std.proofs.lemmas.List.{length-take-le}
use Rattle.std.proofs.lemmas.Bool.Decides.{nat_tests}
use Rattle.dn_io.specs.Lines.{RawLine, longer, lines_of, without_return, size_of, is_overlong}
use Rattle.dn_io.specs.Reading.{FeedFree, FeedAt, overlong, TakesLine, TakesLast, IsTooLong}

-- the first line ends at the first line feed
pub lines-feed : (bytes rest : List ℕ) (at : ℕ) → at < length bytes → eqb (get_or bytes at 0) 10 ≡ true → ((k : ℕ) → k < at → eqb (get_or bytes k 0) 10 ≡ false) → lines_of (bytes ++ rest) ≡ record { bytes = take at bytes; ended = true } ∷ lines_of (drop (suc at) bytes ++ rest)
lines-feed [] rest at within feed free = absurd (omega arith)
lines-feed (x ∷ xs) rest zero within feed free = rw feed refl
lines-feed (x ∷ xs) rest (suc at) within feed free =
    let first : eqb x 10 ≡ false = free 0 (omega arith) in
    let later : lines_of (xs ++ rest) ≡ record { bytes = take at xs; ended = true } ∷ lines_of (drop (suc at) xs ++ rest) =
    lines-feed xs rest at (omega arith) feed (λ k below. free (suc k) (omega arith)) in
    rw (first, later) refl

-- bytes without a line feed are one line
pub lines-last : (x : ℕ) (xs : List ℕ) → FeedFree (x ∷ xs) (length (x ∷ xs)) → lines_of (x ∷ xs) ≡ record { bytes = x ∷ xs; ended = false } ∷ []
lines-last x [] free =
    let first : eqb x 10 ≡ false = free 0 (omega arith) in
    rw first refl
lines-last x (y ∷ ys) free =
    let first : eqb x 10 ≡ false = free 0 (omega arith) in
    let later : lines_of (y ∷ ys) ≡ record { bytes = y ∷ ys; ended = false } ∷ [] = lines-last y ys (λ k below. free (suc k) (omega arith)) in
    rw (first, later) refl

-- a line that so many bytes at least begin
abbrev pub Begins : List RawLine → ℕ → Type 0
Begins lines n = (line : RawLine) × (others : List RawLine) × (lines ≡ line ∷ others) × (n ≤ length line.bytes)

longer-begins : (x : ℕ) (lines : List RawLine) → Begins (longer x lines) 1
longer-begins x [] = (record { bytes = x ∷ []; ended = false }, [], refl, omega arith)
longer-begins x (line ∷ lines) = (record { bytes = x ∷ line.bytes; ended = line.ended }, lines, refl, omega arith)

more-begins : (x : ℕ) (lines : List RawLine) (n : ℕ) → Begins lines n → Begins (longer x lines) (suc n)
more-begins x lines n b =
    (record { bytes = x ∷ b.0.bytes; ended = b.0.ended }, b.1, rw b.2 refl, omega (arith, b.3))

-- bytes without a line feed begin the first line
pub lines-open : (bytes rest : List ℕ) → 0 < length bytes → FeedFree bytes (length bytes) → Begins (lines_of (bytes ++ rest)) (length bytes)
lines-open [] rest some free = absurd (omega arith)
lines-open (x ∷ []) rest some free =
    let first : eqb x 10 ≡ false = free 0 (omega arith) in
    rw first (longer-begins x (lines_of rest))
lines-open (x ∷ y ∷ ys) rest some free =
    let first : eqb x 10 ≡ false = free 0 (omega arith) in
    rw first (more-begins x _ _ (lines-open (y ∷ ys) rest (omega arith) (λ k below. free (suc k) (omega arith))))

overlong-more : (t n m s : ℕ) → n ≤ m → n ≤ s → overlong t n n ≡ true → overlong t m s ≡ true
overlong-more t n m s more most long = grind (arith, nat_tests)

size-least : (line : RawLine) → length line.bytes ≤ size_of line
size-least line = elim line.ended as (λ b. length line.bytes ≤ cond b (length line.bytes + 1) (length line.bytes)) [ true ↦ omega arith | false ↦ omega arith ]

-- without a line feed, and already too long
pub too_long-open : (bytes : List ℕ) (t : ℕ) → 0 < length bytes → FeedFree bytes (length bytes) → overlong t (length bytes) (length bytes) ≡ true → IsTooLong bytes t
too_long-open bytes t some free long rest =
    let b = lines-open bytes rest some free in
    (b.0, b.1, b.2, overlong-more t (length bytes) (length b.0.bytes) (size_of b.0) b.3 (omega (arith, b.3, size-least b.0)) long)

at_feed : (bytes : List ℕ) (t at : ℕ) (answer : Bool) → at < length bytes → overlong t at (at + 1) ≡ answer → is_overlong t (record { bytes = take at bytes; ended = true }) ≡ answer
at_feed bytes t at answer within long =
    let bound : at ≤ length bytes = omega arith in
    let e : length (take at bytes) ≡ at = length-take-le at bytes bound in
    rw e long

-- a whole line that is too long
pub too_long-feed : (bytes : List ℕ) (t at : ℕ) → FeedAt bytes at → overlong t at (at + 1) ≡ true → IsTooLong bytes t
too_long-feed bytes t at f long rest =
    (record { bytes = take at bytes; ended = true }, lines_of (drop (suc at) bytes ++ rest), lines-feed bytes rest at f.within f.feed f.free, at_feed bytes t at true f.within long)

-- a whole line
pub takes-feed : (bytes new text : List ℕ) (t at : ℕ) → FeedAt bytes at → overlong t at (at + 1) ≡ false → text ≡ without_return (take at bytes) → new ≡ drop (at + 1) bytes → TakesLine bytes t text new (t + (at + 1))
takes-feed bytes new text t at f long text_is new_is =
    let bound : at ≤ length bytes = omega (arith, f.within) in
    let e : length (take at bytes) ≡ at = length-take-le at bytes bound in
    record {
      line = record { bytes = take at bytes; ended = true };
      lines = λ rest. rw (new_is, add-one) (lines-feed bytes rest at f.within f.feed f.free);
      fits = at_feed bytes t at false f.within long;
      text_is = text_is;
      taken_is = rw e refl;
    }

-- the last line
pub takes-last : (bytes text new : List ℕ) (t now : ℕ) → 0 < length bytes → FeedFree bytes (length bytes) → overlong t (length bytes) (length bytes) ≡ false → text ≡ bytes → new ≡ [] → now ≡ t + length bytes → TakesLast bytes t text new now
takes-last [] text new t now some free long whole gone taken = absurd (omega arith)
takes-last (x ∷ xs) text new t now some free long whole gone taken =
    record {
      line = record { bytes = x ∷ xs; ended = false };
      lines = lines-last x xs free;
      held = gone;
      fits = long;
      text_is = whole;
      taken_is = taken;
    }

-- a carriage return at the end is left out
pub without-return : (bytes : List ℕ) (k : ℕ) → length bytes ≡ suc k → get_or bytes k 0 ≡ 13 → take k bytes ≡ without_return bytes
without-return [] k len last = absurd (omega arith)
without-return (x ∷ []) zero len last =
    let e : x ≡ 13 = last in
    rw e refl
without-return (x ∷ []) (suc k) len last = absurd (omega arith)
without-return (x ∷ y ∷ ys) zero len last = absurd (omega arith)
without-return (x ∷ y ∷ ys) (suc k) len last = ap (λ tail. x ∷ tail) (without-return (y ∷ ys) k (omega arith) last)

-- any other byte stays
pub without-other : (bytes : List ℕ) (k : ℕ) → length bytes ≡ suc k → (get_or bytes k 0 ≡ 13 → ⊥) → bytes ≡ without_return bytes
without-other [] k len last = refl
without-other (x ∷ []) zero len last =
    let e : eqb x 13 ≡ false = grind (arith, nat_tests) in
    rw e refl
without-other (x ∷ []) (suc k) len last = absurd (omega arith)
without-other (x ∷ y ∷ ys) zero len last = absurd (omega arith)
without-other (x ∷ y ∷ ys) (suc k) len last = ap (λ tail. x ∷ tail) (without-other (y ∷ ys) k (omega arith) last)
