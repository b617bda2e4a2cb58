-- What stands at a place.
use Rattle.std.proofs.Common.{◌≡◌, ℕ, ◌+◌, List, [], ◌∷◌, ◌++◌, length, drop, refl, sym, ap, subst, ◌∙◌, drop_at, drop-drop}
use Rattle.std.proofs.lemmas.List.{append-nil}
use Rattle.dn_rdata.specs.Laid.{Laid, Stands}
use Rattle.dn_rdata.specs.declared.parts.Part.TheVariants.{Rest}
use Rattle.dn_message.specs.Fields.{two_bytes}
use Rattle.dn_message.specs.Header.{IsHeader}

-- what stands behind a piece is what stands at its end
pub stands : (message : List ℕ) (at next : ℕ) (piece back : List ℕ) → drop at message ≡ piece ++ back → next ≡ at + length piece → Stands message at piece next
stands message at next piece back e n =
    let behind : drop next message ≡ back = ap (λ k. drop k message) n ∙ sym (drop-drop (length piece) at message) ∙ ap (drop (length piece)) e ∙ drop_at piece back (length piece) refl in
    record { bytes = e ∙ ap (λ xs. piece ++ xs) (sym behind); next_is = n }

-- any bytes lie where they stand, and only there
pub any_laid : (message : List ℕ) (at next : ℕ) (rdata : List ℕ) → Stands message at rdata next → Laid message at next (Rest ∷ []) rdata
any_laid message at next rdata is = (rdata, [], next, (is, refl), sym (append-nil rdata), (refl, refl))

pub any_stands : (message : List ℕ) (at next : ℕ) (rdata : List ℕ) → Laid message at next (Rest ∷ []) rdata → Stands message at rdata next
any_stands message at next rdata laid =
    let same : rdata ≡ laid.0 = laid.4 ∙ ap (λ xs. laid.0 ++ xs) laid.5.0 ∙ append-nil laid.0 in
    subst (λ k. Stands message at rdata k) laid.3.1 (subst (λ xs. Stands message at xs laid.2) (sym same) laid.3.0)

-- six numbers of two bytes at the front are a header
pub six_stand : (number flags questions answers authorities additional : ℕ) (back : List ℕ)
    → IsHeader ((two_bytes number ++ (two_bytes flags ++ (two_bytes questions ++ (two_bytes answers ++ (two_bytes authorities ++ two_bytes additional))))) ++ back)
    number flags questions answers authorities additional
six_stand number flags questions answers authorities additional back =
    record {
      number_stands = record { bytes = refl; next_is = refl };
      flags_stand = record { bytes = refl; next_is = refl };
      questions_stand = record { bytes = refl; next_is = refl };
      answers_stand = record { bytes = refl; next_is = refl };
      authorities_stand = record { bytes = refl; next_is = refl };
      additional_stand = record { bytes = refl; next_is = refl };
    }
