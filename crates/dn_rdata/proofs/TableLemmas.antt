-- The table of parts agrees with what is said of a type's names.
use Rattle.std.proofs.Common.{◌≡◌, ℕ, false, inl, inr, refl, subst, arith, nat_eq}
use Rattle.std.proofs.lemmas.Bool.{cases_Bool}
use Rattle.std.proofs.lemmas.Bool.Decides.{nat_tests}
use Rattle.dn_rdata.specs.Layout.{NamesAgree}

-- what holds of one number, and of all that are another, holds of each
by_type : (rtype number : ℕ) → NamesAgree number → (nat_eq rtype number ≡ false → NamesAgree rtype) → NamesAgree rtype
by_type rtype number agree others =
    elim (cases_Bool (nat_eq rtype number)) [
      | inl same ↦ (let number_is : number ≡ rtype = grind (arith, nat_tests) in subst NamesAgree number_is agree)
      | inr other ↦ others other
    ]

pub names_agree : (rtype : ℕ) → NamesAgree rtype
names_agree rtype =
    by_type rtype 0 (refl, λ h. absurd (omega arith)) (λ not0.
    by_type rtype 1 (refl, λ h. absurd (omega arith)) (λ not1.
    by_type rtype 2 (refl, λ h. refl) (λ not2.
    by_type rtype 5 (refl, λ h. refl) (λ not5.
    by_type rtype 6 (refl, λ h. refl) (λ not6.
    by_type rtype 12 (refl, λ h. refl) (λ not12.
    by_type rtype 13 (refl, λ h. absurd (omega arith)) (λ not13.
    by_type rtype 15 (refl, λ h. refl) (λ not15.
    by_type rtype 16 (refl, λ h. absurd (omega arith)) (λ not16.
    by_type rtype 28 (refl, λ h. absurd (omega arith)) (λ not28.
    by_type rtype 33 (refl, λ h. refl) (λ not33.
    rw (not0, not1, not2, not5, not6, not12, not13, not15, not16, not28, not33) (refl, λ h. absurd (omega arith)))))))))))))
