-- The sections of a reply, one behind the other.
use Rattle.std.proofs.Common.{◌≡◌, ℕ, ◌<◌, List, length, ap, subst, arith}
use Rattle.dn_message.specs.declared.counts.Counts.{Counts}
use Rattle.dn_message.specs.declared.reply.Question.{Question}
use Rattle.dn_message.specs.declared.rr.Rr.{Rr}
use Rattle.dn_message.specs.declared.sections.Sections.{Sections}
use Rattle.dn_message.specs.Record.{IsRr, typed_data}
use Rattle.dn_message.specs.Reply.{IsQuestion}
use Rattle.dn_message.specs.ReplyReading.{AreEntries, AreSections}

-- so many questions, or records, from a place up to another
abbrev Questions : List ℕ → ℕ → ℕ → List Question × ℕ → Type 0
Questions message count at found = AreEntries (IsQuestion message) count at found.0 found.1

abbrev Rows : List ℕ → ℕ → ℕ → List Rr × ℕ → Type 0
Rows message count at found = AreEntries (IsRr typed_data message) count at found.0 found.1

-- What was read before a section stands so in any sections. So a section that can't be read stands in none, and those that
-- were all read are the only ones.
module _ (message : List ℕ) (counts : Counts) where
  pub no_questions : ((other : List Question × ℕ) → Questions message counts.questions 12 other → ⊥) → (other : Sections) → AreSections message counts other → ⊥
  no_questions none other is = none (other.questions, is.answer_at) is.questions

  module _ (questions : List Question) (answer_at : ℕ) (are_questions : Questions message counts.questions 12 (questions, answer_at))
      (only_questions : (other : List Question × ℕ) → Questions message counts.questions 12 other → other ≡ (questions, answer_at)) where
    questions_of : (other : Sections) (is : AreSections message counts other) → ◌≡◌ {A = List Question × ℕ} (other.questions, is.answer_at) (questions, answer_at)
    questions_of other is = only_questions (other.questions, is.answer_at) is.questions

    answer_in : (other : Sections) (is : AreSections message counts other) → Rows message counts.answer answer_at (other.answer, is.authority_at)
    answer_in other is = subst (λ k. Rows message counts.answer k (other.answer, is.authority_at)) (ap (λ (p : List Question × ℕ). p.1) (questions_of other is)) is.answer

    pub no_answer : ((other : List Rr × ℕ) → Rows message counts.answer answer_at other → ⊥) → (other : Sections) → AreSections message counts other → ⊥
    no_answer none other is = none (other.answer, is.authority_at) (answer_in other is)

    module _ (answer : List Rr) (authority_at : ℕ) (is_answer : Rows message counts.answer answer_at (answer, authority_at))
        (only_answer : (other : List Rr × ℕ) → Rows message counts.answer answer_at other → other ≡ (answer, authority_at)) where
      answer_of : (other : Sections) (is : AreSections message counts other) → ◌≡◌ {A = List Rr × ℕ} (other.answer, is.authority_at) (answer, authority_at)
      answer_of other is = only_answer (other.answer, is.authority_at) (answer_in other is)

      authority_in : (other : Sections) (is : AreSections message counts other) → Rows message counts.authority authority_at (other.authority, is.additional_at)
      authority_in other is =
          subst (λ k. Rows message counts.authority k (other.authority, is.additional_at)) (ap (λ (p : List Rr × ℕ). p.1) (answer_of other is)) is.authority

      pub no_authority : ((other : List Rr × ℕ) → Rows message counts.authority authority_at other → ⊥) → (other : Sections) → AreSections message counts other → ⊥
      no_authority none other is = none (other.authority, is.additional_at) (authority_in other is)

      module _ (authority : List Rr) (additional_at : ℕ) (is_authority : Rows message counts.authority authority_at (authority, additional_at))
          (only_authority : (other : List Rr × ℕ) → Rows message counts.authority authority_at other → other ≡ (authority, additional_at)) where
        authority_of : (other : Sections) (is : AreSections message counts other) → ◌≡◌ {A = List Rr × ℕ} (other.authority, is.additional_at) (authority, additional_at)
        authority_of other is = only_authority (other.authority, is.additional_at) (authority_in other is)

        additional_in : (other : Sections) → AreSections message counts other → Rows message counts.additional additional_at (other.additional, length message)
        additional_in other is =
            subst (λ k. Rows message counts.additional k (other.additional, length message)) (ap (λ (p : List Rr × ℕ). p.1) (authority_of other is)) is.additional

        pub no_additional : ((other : List Rr × ℕ) → Rows message counts.additional additional_at other → ⊥) → (other : Sections) → AreSections message counts other → ⊥
        no_additional none other is = none (other.additional, length message) (additional_in other is)

        module _ (additional : List Rr) (end : ℕ) (is_additional : Rows message counts.additional additional_at (additional, end))
            (only_additional : (other : List Rr × ℕ) → Rows message counts.additional additional_at other → other ≡ (additional, end)) where
          additional_of : (other : Sections) → AreSections message counts other → ◌≡◌ {A = List Rr × ℕ} (other.additional, length message) (additional, end)
          additional_of other is = only_additional (other.additional, length message) (additional_in other is)

          pub no_end : end < length message → (other : Sections) → AreSections message counts other → ⊥
          no_end more other is = omega (arith, more, ap (λ (p : List Rr × ℕ). p.1) (additional_of other is))

          pub sections_found : end ≡ length message
              → AreSections message counts (record { questions = questions; answer = answer; authority = authority; additional = additional })
              × ((other : Sections) → AreSections message counts other → other ≡ record { questions = questions; answer = answer; authority = authority; additional = additional })
          sections_found last = (
            record {
              answer_at = answer_at;
              authority_at = authority_at;
              additional_at = additional_at;
              questions = are_questions;
              answer = is_answer;
              authority = is_authority;
              additional = subst (λ k. Rows message counts.additional additional_at (additional, k)) last is_additional;
            },
            λ other is.
                let q = questions_of other is in
                let a = answer_of other is in
                let u = authority_of other is in
                let d = additional_of other is in
                λ i. record { questions = (q i).0; answer = (a i).0; authority = (u i).0; additional = (d i).0 },
          )
