-- Pieces of bytes, taken from the front.
use Rattle.std.proofs.Common.{◌≡◌, ℕ, ◌+◌, List, ◌++◌, [], ◌<◌, length, take, drop, Option, None, Some, sym, ◌∙◌, ap, append_assoc, arith}
use Rattle.std.proofs.lemmas.List.{drop-drop, length-append, take-append-drop}
use Rattle.dn_io.specs.Reading.{Appended}

-- what a read moves, and what is left
pub unread_moves : (bytes : List ℕ) (at r : ℕ) → drop at bytes ≡ take r (drop at bytes) ++ drop (at + r) bytes
unread_moves bytes at r = sym (ap (λ b. take r (drop at bytes) ++ b) (sym (drop-drop r at bytes)) ∙ take-append-drop r (drop at bytes))

-- a front of a piece, and then a front of its rest
pub appended-more : (before now after : Option (List ℕ)) (bytes rest new_rest : List ℕ) → Appended before now bytes rest → Appended now after rest new_rest → Appended before after bytes new_rest
appended-more None now after bytes rest new_rest a b =
    record { front = a.front ++ b.front; split = rw (a.split, b.split) (sym (append_assoc a.front b.front new_rest)); grown = tt }
appended-more (Some xs) None after bytes rest new_rest a b = absurd a.grown
appended-more (Some xs) (Some ys) None bytes rest new_rest a b = absurd b.grown
appended-more (Some xs) (Some ys) (Some zs) bytes rest new_rest a b =
    record { front = a.front ++ b.front; split = rw (a.split, b.split) (sym (append_assoc a.front b.front new_rest)); grown = rw (b.grown, a.grown) (append_assoc xs a.front b.front) }

-- no rest is left of nothing
pub appended-nothing : (before now : Option (List ℕ)) (bytes rest : List ℕ) → Appended before now bytes rest → bytes ≡ [] → 0 < length rest → ⊥
appended-nothing before now bytes rest a none some =
    let e : length bytes ≡ length a.front + length rest = ap length a.split ∙ length-append a.front rest in
    let z : length bytes ≡ 0 = ap length none in
    omega (arith, e, z, some)
