-- Numbers at the front of bytes, one behind another: at each front they are there once or not at all.
use Rattle.std.proofs.Common.{◌≡◌, ℕ, ◌+◌, ◌*◌, ◌/◌, ◌%◌, List, [], ◌∷◌, ◌++◌, length, sym, ap, ap₂, ◌∙◌, arith, append_assoc}
use Rattle.std.proofs.Math.Decide.{dec_lt}
use Rattle.dn_name.specs.Exact.{Decided}
use Rattle.dn_name.proofs.CallerLemmas.{by_part, no_value, one_value}
use Rattle.dn_message.specs.Fields.{four_bytes, two_bytes}

-- the bytes begin with the ones of this value, and these are the bytes behind
abbrev pub IsFront : {Value : Type 0} → (Value → List ℕ) → List ℕ → Value × List ℕ → Type 0
IsFront bytes_of bytes found = bytes ≡ bytes_of found.0 ++ found.1

-- which value it is, for any bytes
abbrev pub Fronts : {Value : Type 0} → (Value → List ℕ) → Type 0
Fronts bytes_of = (bytes : List ℕ) → Decided (IsFront bytes_of bytes)

pub two : Fronts two_bytes
two [] = no_value (λ other is. cc)
two (high ∷ []) = no_value (λ other is. omega (arith, ap length is))
two (high ∷ (low ∷ rest)) =
    let number : ℕ = 256 * high + low in
    elim (dec_lt low 256) [
      | yes small ↦
          let first : high ≡ number / 256 = omega arith in
          let second : low ≡ number % 256 = omega arith in
          one_value (number, rest) (λ i. first i ∷ (second i ∷ rest))
          (λ other is.
          let high_is : high ≡ other.0 / 256 = cc in
          let low_is : low ≡ other.0 % 256 = cc in
          let rest_is : other.1 ≡ rest = cc in
          let same : other.0 ≡ number = omega arith in
          ap₂ (λ (n : ℕ) (xs : List ℕ). (n, xs)) same rest_is)
      | no large ↦ no_value (λ other is. let low_is : low ≡ other.0 % 256 = cc in large (omega arith))
    ]

module _ {Left Right : Type 0} (left : Left → List ℕ) (right : Right → List ℕ) where
  -- one behind another
  abbrev pub both_bytes : Left × Right → List ℕ
  both_bytes values = left values.0 ++ right values.1

  pub both : Fronts left → Fronts right → Fronts both_bytes
  both front_left front_right bytes =
      by_part (front_left bytes) (λ found is. (first_of found, begins found is))
      (λ first is_first only_first.
      by_part (front_right first.1) (λ found is. ((found.0.1, found.1), sym (ap (λ (p : Left × List ℕ). p.1) (only_first (first_of found) (begins found is)))))
      (λ second is_second only_second.
      one_value ((first.0, second.0), second.1) (is_first ∙ ap (λ xs. left first.0 ++ xs) is_second ∙ sym (append_assoc (left first.0) (right second.0) second.1))
      (λ found is.
      let same_first = only_first (first_of found) (begins found is) in
      let same_second = only_second (found.0.1, found.1) (sym (ap (λ (p : Left × List ℕ). p.1) same_first)) in
      ap₂ (λ (x : Left × List ℕ) (y : Right × List ℕ). ((x.0, y.0), y.1)) same_first same_second)))
    where
      first_of : (Left × Right) × List ℕ → Left × List ℕ
      first_of found = (found.0.0, right found.0.1 ++ found.1)

      begins : (found : (Left × Right) × List ℕ) → IsFront both_bytes bytes found → IsFront left bytes (first_of found)
      begins found is = is ∙ append_assoc (left found.0.0) (right found.0.1) found.1

pub four : Fronts four_bytes
four bytes =
    by_part (both two_bytes two_bytes two two bytes) (λ found is. (halves found, is))
    (λ pair is only.
    let number : ℕ = 65536 * pair.0.0 + pair.0.1 in
    elim (dec_lt pair.0.1 65536) [
      | yes small ↦
          let high : pair.0.0 ≡ number / 65536 = omega arith in
          let low : pair.0.1 ≡ number % 65536 = omega arith in
          one_value (number, pair.1) (is ∙ ap₂ (λ (x y : ℕ). (two_bytes x ++ two_bytes y) ++ pair.1) high low)
          (λ other also.
          let same = only (halves other) also in
          let number_is : other.0 ≡ number = omega (arith, ap (λ (p : (ℕ × ℕ) × List ℕ). p.0.0) same, ap (λ (p : (ℕ × ℕ) × List ℕ). p.0.1) same) in
          ap₂ (λ (n : ℕ) (xs : List ℕ). (n, xs)) number_is (ap (λ (p : (ℕ × ℕ) × List ℕ). p.1) same))
      | no large ↦ no_value (λ other also. large (omega (arith, ap (λ (p : (ℕ × ℕ) × List ℕ). p.0.1) (only (halves other) also))))
    ])
  where
    halves : ℕ × List ℕ → (ℕ × ℕ) × List ℕ
    halves found = ((found.0 / 65536, found.0 % 65536), found.1)
