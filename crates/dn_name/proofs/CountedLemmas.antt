-- A counted name stands at a place once.
use Rattle.std.proofs.Common.{◌≡◌, ℕ, ◌+◌, ◌≤◌, List, ◌∷◌, ◌++◌, length, drop, Option, Some, sym, ap, ap₂, ◌∙◌, arith, drop-drop, length-append, length-drop}
use Rattle.dn_name.specs.Counted.{AreCounts, Counted}
use Rattle.dn_name.specs.Name.{Labels, IsName, wire_len, wire_of}
use Rattle.dn_name.proofs.WireNameLemmas.{length-wire_of}

pairs : {left right : Labels × ℕ} → Some left ≡ Some right → left ≡ right
pairs same = cc

-- what stands behind both counts
pub behind_counts : (message : List ℕ) (at len count : ℕ) (rest : List ℕ) → drop at message ≡ len ∷ (count ∷ rest) → drop (at + 2) message ≡ rest
behind_counts message at len count rest there = sym (drop-drop 2 at message) ∙ ap (drop 2) there

module _ (message : List ℕ) (at len count : ℕ) (rest : List ℕ) (there : drop at message ≡ len ∷ (count ∷ rest)) where
  -- any counted name at the place has these counts, and its bytes begin the rest
  parts_of : (name : Labels) (next : ℕ) (is : Counted message at name next) → AreCounts name len count × (rest ≡ wire_of name ++ is.rest)
  parts_of name next is =
      let same : len ∷ (count ∷ rest) ≡ wire_len name ∷ (length name ∷ (wire_of name ++ is.rest)) = sym there ∙ is.stands in
      ((cc, cc), cc)

  module _ (read : Option (Labels × ℕ)) (again : (name : Labels) (back : List ℕ) → IsName name → rest ≡ wire_of name ++ back → read ≡ Some (name, wire_len name))
      (name : Labels) (taken : ℕ) (found : read ≡ Some (name, taken)) where
    -- the name that was read is the name of any counted name there
    same_name : (other : Labels) (next : ℕ) → Counted message at other next → (other ≡ name) × (taken ≡ wire_len other) × AreCounts other len count
    same_name other next is =
        let parts = parts_of other next is in
        let same = pairs (sym found ∙ again other is.rest is.named parts.1) in
        (sym (ap (λ (p : Labels × ℕ). p.0) same), ap (λ (p : Labels × ℕ). p.1) same, parts.0)

    pub counted_found : (back : List ℕ) → IsName name → rest ≡ wire_of name ++ back → AreCounts name len count
        → Counted message at name (at + 2 + taken) × ((other : Labels × ℕ) → Counted message at other.0 other.1 → other ≡ (name, at + 2 + taken))
    counted_found back named spelled counts =
        let size : taken ≡ wire_len name = ap (λ (p : Labels × ℕ). p.1) (pairs (sym found ∙ again name back named spelled)) in (
          record {
            named = named;
            rest = back;
            stands = there ∙ ap₂ (λ (n : ℕ) (xs : List ℕ). n ∷ xs) counts.0 (ap₂ (λ (n : ℕ) (xs : List ℕ). n ∷ xs) counts.1 spelled);
            next_is = omega (arith, size);
          },
          λ other is.
              let name_is = same_name other.0 other.1 is in
              ap₂ (λ (xs : Labels) (n : ℕ). (xs, n)) name_is.0 (omega (arith, is.next_is, name_is.1)),
        )

    pub counted_within : (back : List ℕ) → IsName name → rest ≡ wire_of name ++ back → at ≤ length message → at + 2 + taken ≤ length message
    counted_within back named spelled within =
        let size : taken ≡ wire_len name = ap (λ (p : Labels × ℕ). p.1) (pairs (sym found ∙ again name back named spelled)) in
        omega (arith, size, length-wire_of name, ap length spelled, length-append (wire_of name) back, ap length there, length-drop at message)

    pub counted_other : (AreCounts name len count → ⊥) → (other : Labels × ℕ) → Counted message at other.0 other.1 → ⊥
    counted_other none other is =
        let name_is = same_name other.0 other.1 is in
        none (name_is.2.0 ∙ ap wire_len name_is.0, name_is.2.1 ∙ ap length name_is.0)
