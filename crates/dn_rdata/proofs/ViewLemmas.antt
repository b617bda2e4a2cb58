-- The parts of which a view of data consists.
use Rattle.std.proofs.Common.{◌≡◌, ℕ, ◌-◌, List, [], ◌∷◌, ◌++◌, length, drop, Option, None, Some, inl, inr, true, nat_eq, sym, ap, ap₂, subst, ◌∙◌, arith, append-nil, length-append, drop_at}
use Rattle.std.proofs.lemmas.Bool.{cases_Bool}
use Rattle.std.proofs.lemmas.Bool.Decides.{nat_tests}
use Rattle.dn_rdata.specs.Layout.{AreParts, AreTexts, Begins, IsData, texts_bytes}
use Rattle.dn_rdata.specs.Views.{IsWireName, is_strings}
use Rattle.dn_rdata.specs.declared.parts.Part.TheVariants.{Bytes, OneName}
use Rattle.dn_rdata.proofs.StoredLemmas.{same_split}

-- ---- a name at the front

module _ (bytes : List ℕ) where
  pub name_missed : (back : List ℕ) × Begins OneName bytes back → ((back : List ℕ) → Begins OneName bytes back → ◌≡◌ {A = Option (List ℕ)} None (Some back)) → ⊥
  name_missed begins once =
      let none : ◌≡◌ {A = Option (List ℕ)} None (Some begins.0) = once begins.0 begins.1 in
      cc

  -- so many bytes are dropped as the name takes
  pub name_behind : (behind rest : List ℕ) → Begins OneName bytes behind → ((back : List ℕ) → Begins OneName bytes back → Some behind ≡ Some back)
      → rest ≡ drop (length bytes - length behind) bytes → (back : List ℕ) → Begins OneName bytes back → rest ≡ back
  name_behind behind rest found once is back begins =
      let same : Some behind ≡ Some back = once back begins in
      let size : length found.0 ≡ length bytes - length behind = omega (arith, ap length found.1, length-append found.0 behind) in
      let cut : drop (length bytes - length behind) bytes ≡ behind = ap (drop (length bytes - length behind)) found.1 ∙ drop_at found.0 behind (length bytes - length behind) size in
      cc

-- ---- the start of a zone: two names and twenty bytes

module _ (rdata : List ℕ) (is : AreParts (OneName ∷ (OneName ∷ (Bytes 20 ∷ []))) rdata) (rest : List ℕ) (only : (back : List ℕ) → Begins OneName rdata back → rest ≡ back) where
  second_begins : Begins OneName rest is.2.0
  second_begins = subst (λ xs. Begins OneName xs is.2.0) (sym (only is.0 is.1)) is.2.1

  pub second_name : (back : List ℕ) × Begins OneName rest back
  second_name = (is.2.0, second_begins)

  pub last_twenty : (numbers : List ℕ) → ((back : List ℕ) → Begins OneName rest back → numbers ≡ back) → length numbers ≡ 20
  last_twenty numbers also =
      let last = is.2.2 in
      omega (arith, ap length (also is.2.0 second_begins), ap length last.1.1, length-append last.1.0 last.0, last.1.2, ap length last.2)

-- ---- numbers before a name

name_alone : (bytes : List ℕ) → AreParts (OneName ∷ []) bytes → IsWireName bytes
name_alone bytes is = (is.1.2.0, is.1.2.1, is.1.1 ∙ ap (λ xs. is.1.0 ++ xs) is.2 ∙ append-nil is.1.0 ∙ is.1.2.2)

pub name_last : (count : ℕ) (rdata : List ℕ) → AreParts (Bytes count ∷ (OneName ∷ [])) rdata → (front rest : List ℕ) → rdata ≡ front ++ rest → length front ≡ count → IsWireName rest
name_last count rdata is front rest split size =
    let same = same_split is.1.0 front is.0 rest (is.1.2 ∙ sym size) (sym is.1.1 ∙ split) in
    subst IsWireName same.1 (name_alone is.0 is.2)

-- ---- strings

two_texts : (rdata : List ℕ) → IsData 13 rdata → AreTexts rdata
two_texts rdata is =
    let join : List ℕ → List ℕ → List ℕ = λ xs ys. xs ++ ys in
    let more = is.2 in
    (is.1.2.0 ∷ (more.1.2.0 ∷ []), is.1.1 ∙ ap₂ join is.1.2.1 (more.1.1 ∙ ap₂ join more.1.2.1 more.2))

any_texts : (rdata : List ℕ) → IsData 16 rdata → AreTexts rdata
any_texts rdata is =
    let join : List ℕ → List ℕ → List ℕ = λ xs ys. xs ++ ys in
    (is.1.2.0 ∷ is.1.2.1, is.1.1 ∙ ap₂ join is.1.2.2 is.1.2.3 ∙ append-nil (texts_bytes (is.1.2.0 ∷ is.1.2.1)))

pub are_texts : (rtype : ℕ) (rdata : List ℕ) → is_strings rtype ≡ true → IsData rtype rdata → AreTexts rdata
are_texts rtype rdata strings is =
    elim (cases_Bool (nat_eq rtype 13)) [
      | inl two ↦ (let number : rtype ≡ 13 = grind (arith, nat_tests) in two_texts rdata (subst (λ n. IsData n rdata) number is))
      | inr any ↦ (let number : rtype ≡ 16 = grind (arith, nat_tests) in any_texts rdata (subst (λ n. IsData n rdata) number is))
    ]
