-- A question stands at a place once.
use Rattle.std.proofs.Common.{◌≡◌, ℕ, ◌+◌, List, refl, ap, ap₂, subst, ◌∙◌}
use Rattle.dn_name.specs.Name.{Labels}
use Rattle.dn_name.specs.Spelled.{Spelled}
use Rattle.dn_message.specs.declared.reply.Question.{Question}
use Rattle.dn_message.specs.Reading.{IsTypeAndClass}
use Rattle.dn_message.specs.Reply.{IsQuestion}

module _ (message : List ℕ) (at : ℕ) (name : Labels) (behind : ℕ) (spelled : Spelled message at name behind)
    (only : (found : Labels × ℕ) → Spelled message at found.0 found.1 → found ≡ (name, behind)) where
  kind_of : (question : Question) (next : ℕ) → IsQuestion message at question next → IsTypeAndClass message behind (question.qtype, question.qclass)
  kind_of question next is =
      subst (λ k. IsTypeAndClass message k (question.qtype, question.qclass)) (ap (λ (p : Labels × ℕ). p.1) (only (question.name, is.behind) is.name_spelled)) is.type_and_class

  pub no_kind : ((other : ℕ × ℕ) → IsTypeAndClass message behind other → ⊥) → (other : Question × ℕ) → IsQuestion message at other.0 other.1 → ⊥
  no_kind none other is = none (other.0.qtype, other.0.qclass) (kind_of other.0 other.1 is)

  pub question_found : (kind : ℕ × ℕ) → IsTypeAndClass message behind kind → ((other : ℕ × ℕ) → IsTypeAndClass message behind other → other ≡ kind)
      → IsQuestion message at (record { name = name; qtype = kind.0; qclass = kind.1 }) (behind + 4)
      × ((other : Question × ℕ) → IsQuestion message at other.0 other.1 → other ≡ (record { name = name; qtype = kind.0; qclass = kind.1 }, behind + 4))
  question_found kind is_kind only_kind = (
    record { behind = behind; name_spelled = spelled; type_and_class = is_kind; next_is = refl },
    λ other is.
        let n = only (other.0.name, is.behind) is.name_spelled in
        let k = only_kind (other.0.qtype, other.0.qclass) (kind_of other.0 other.1 is) in
        ap₂ (λ (x : Question) (y : ℕ). (x, y)) (λ i. record { name = (n i).0; qtype = (k i).0; qclass = (k i).1 }) (is.next_is ∙ ap (λ (p : Labels × ℕ). p.1 + 4) n),
  )
