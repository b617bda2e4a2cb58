-- What a sink holds behind several writes, and what is known where a source tells.
use Rattle.std.proofs.Common.{ℕ, List, [], ◌++◌, Option, Some, None, refl, sym, ap, ◌∙◌, append_assoc}
use Rattle.std.proofs.lemmas.List.{append-nil}
use Rattle.std.specs.Io.KnownBytes.{Appends}
use Rattle.dn_io.specs.Outside.{AppendsFront, WhereTold}

-- ---- what a sink holds

pub nothing_more : (known : Option (List ℕ)) → Appends known known []
nothing_more None = tt
nothing_more (Some bytes) = sym (append-nil bytes)

-- one append behind another
pub appends-then : (before mid now : Option (List ℕ)) (first second : List ℕ) → Appends before mid first → Appends mid now second → Appends before now (first ++ second)
appends-then None mid now first second a b = tt
appends-then (Some x) None now first second a b = absurd a
appends-then (Some x) (Some y) None first second a b = absurd b
appends-then (Some x) (Some y) (Some z) first second a b = b ∙ ap (λ (l : List ℕ). l ++ second) a ∙ append_assoc x first second

pub front-then : (before mid now : Option (List ℕ)) (first second : List ℕ) → Appends before mid first → AppendsFront mid now second → AppendsFront before now (first ++ second)
front-then before mid now first second a (front, back, parts, b) =
    (first ++ front, back, ap (λ (l : List ℕ). first ++ l) parts ∙ sym (append_assoc first front back), appends-then before mid now first front a b)

-- a front of the first piece is one of the whole
pub front-more : (before now : Option (List ℕ)) (first second : List ℕ) → AppendsFront before now first → AppendsFront before now (first ++ second)
front-more before now first second (front, back, parts, a) =
    (front, back ++ second, ap (λ (l : List ℕ). l ++ second) parts ∙ append_assoc front back second, a)

-- nothing is a front of all
pub front-none : (known : Option (List ℕ)) (bytes : List ℕ) → AppendsFront known known bytes
front-none known bytes = ([], bytes, refl, nothing_more known)

-- ---- where a source tells

pub told_map : (before now : Option (List ℕ)) (P Q : List ℕ → List ℕ → Type 0) → ((x y : List ℕ) → P x y → Q x y) → WhereTold before now P → WhereTold before now Q
told_map None now P Q f t = tt
told_map (Some x) None P Q f t = absurd t
told_map (Some x) (Some y) P Q f t = f x y t

pub told_then : (s0 s1 s2 : Option (List ℕ)) (P Q R : List ℕ → List ℕ → Type 0) → ((x y z : List ℕ) → P x y → Q y z → R x z) → WhereTold s0 s1 P → WhereTold s1 s2 Q → WhereTold s0 s2 R
told_then None s1 s2 P Q R f p q = tt
told_then (Some x) None s2 P Q R f p q = absurd p
told_then (Some x) (Some y) None P Q R f p q = absurd q
told_then (Some x) (Some y) (Some z) P Q R f p q = f x y z p q
