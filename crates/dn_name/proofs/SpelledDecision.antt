-- At each place of a message one name is spelled or none: reading decides which.
use Rattle.std.proofs.Common.{◌≡◌, ℕ, zero, suc, ◌+◌, ◌≤◌, ◌<◌, List, [], ◌∷◌, ◌++◌, length, take, drop, refl, sym, ap, ap₂, subst, ◌∙◌, arith, drop-drop, length-append, length-drop, length-take-le, take-append-drop}
use Rattle.std.proofs.Math.Decide.{dec_le, dec_lt}
use Rattle.std.specs.List.{AllByRecursion}
use Rattle.dn_name.specs.Exact.{Decided}
use Rattle.dn_name.specs.Name.{Labels, IsLabel, wire_len}
use Rattle.dn_name.specs.Spelled.{target, Segment, Ends, Goes, Leads, Spelled}
use Rattle.dn_name.proofs.DecisionLemmas.{by_part, no_value, one_value}
use Rattle.dn_name.proofs.PointerTurnLemmas.{by_label, by_nothing, by_other, by_pointer}
use Rattle.dn_name.proofs.SpelledLemmas.{once}

module _ (message : List ℕ) where
  -- these labels are spelled, and this is the place behind them
  abbrev pub IsSegment : ℕ → ℕ → Labels × ℕ → Type 0
  IsSegment start at found = Segment message start at found.0 found.1

  spelled_one : (start at : ℕ) (labels : Labels) (next : ℕ) → Segment message start at labels next → Decided (IsSegment start at)
  spelled_one start at labels next is =
      one_value (labels, next) is
      (λ other also. let same = once message {at = at} {place = at} refl also is in ap₂ (λ (xs : Labels) (n : ℕ). (xs, n)) same.0 same.1)

  -- ---- by the first byte, once what is behind it is decided

  behind_label : (start at len : ℕ) (rest : List ℕ) → 1 ≤ len → len ≤ 63 → drop at message ≡ len ∷ rest → len ≤ length rest
      → Decided (IsSegment start (at + 1 + len)) → Decided (IsSegment start at)
  behind_label start at len rest some few e room behind =
      let size : length (take len rest) ≡ len = length-take-le len rest room in
      let bytes : drop at message ≡ (length (take len rest) ∷ take len rest) ++ drop len rest =
      e ∙ ap₂ (λ (n : ℕ) (xs : List ℕ). n ∷ xs) (sym size) (sym (take-append-drop len rest)) in
      by_part behind
      (λ found is. let first = by_label message some few e is in ((first.2.more, found.1), subst (λ n. Segment message start (at + 1 + n) first.2.more found.1) first.1 first.2.segment))
      (λ found is only. spelled_one start at (take len rest ∷ found.0) found.1
      (Goes (take len rest) (drop len rest) (omega arith, omega arith) bytes (subst (λ n. Segment message start (at + 1 + n) found.0 found.1) (sym size) is)))

  cut_label : (start at len : ℕ) (rest : List ℕ) → 1 ≤ len → len ≤ 63 → drop at message ≡ len ∷ rest → length rest < len → Decided (IsSegment start at)
  cut_label start at len rest some few e cut =
      no_value (λ found is. let first = by_label message some few e is in omega (arith, first.1, ap length first.2.rest_is, length-append first.0 first.2.back))

  behind_pointer : (start at high : ℕ) (rest : List ℕ) → 192 ≤ high → drop at message ≡ high ∷ rest
      → ((place : ℕ) → place < start → Decided (IsSegment place place)) → Decided (IsSegment start at)
  behind_pointer start at high [] marked e below = no_value (λ found is. let led = by_pointer message marked e is in omega (arith, ap length led.rest_is))
  behind_pointer start at high (low ∷ back) marked e below =
      elim (dec_lt (target high low) start) [
        | yes falls ↦
            by_part (below (target high low) falls)
            (λ found is.
            let led = by_pointer message marked e is in
            let same : led.low ≡ low = cc in
            ((found.0, led.elsewhere), subst (λ place. Segment message place place found.0 led.elsewhere) (ap (target high) same) led.segment))
            (λ found is only. spelled_one start at found.0 (at + 2) (Leads {elsewhere = found.1} high low back marked e falls is))
        | no forward ↦
            no_value (λ found is.
            let led = by_pointer message marked e is in
            let same : led.low ≡ low = cc in
            forward (subst (λ place. place < start) (ap (target high) same) led.below))
      ]

  -- ---- a whole segment

  behind_byte : (at len : ℕ) (rest : List ℕ) → drop at message ≡ len ∷ rest → drop (at + 1 + len) message ≡ drop len rest
  behind_byte at len rest e = ap (λ k. drop k message) (omega arith) ∙ sym (drop-drop (suc len) at message) ∙ ap (drop (suc len)) e

  -- a label takes bytes of those that are left
  from_place : (start : ℕ) → ((place : ℕ) → place < start → Decided (IsSegment place place)) → (steps at : ℕ) (bytes : List ℕ) → drop at message ≡ bytes
      → length bytes ≤ steps → Decided (IsSegment start at)
  from_place start below steps at [] e few = no_value (λ found is. by_nothing message (ap length e) is)
  from_place start below zero at (byte ∷ rest) e few = absurd (omega arith)
  from_place start below (suc steps) at (zero ∷ rest) e few = spelled_one start at [] (at + 1) (Ends rest e)
  from_place start below (suc steps) at (suc k ∷ rest) e few =
      let len : ℕ = suc k in
      elim (dec_le len 63) [
        | yes short ↦
            elim (dec_le len (length rest)) [
              | yes room ↦
                  behind_label start at len rest (omega arith) short e room
                  (from_place start below steps (at + 1 + len) (drop len rest) (behind_byte at len rest e) (omega (arith, length-drop len rest)))
              | no cut ↦ cut_label start at len rest (omega arith) short e (omega arith)
            ]
        | no long ↦
            elim (dec_le 192 len) [
              | yes marked ↦ behind_pointer start at len rest marked e below
              | no unmarked ↦ no_value (λ found is. by_other message (omega arith) (omega arith) e is)
            ]
      ]

  -- a pointer leads before its segment's start
  segment_or_not : (pointers start at : ℕ) → start ≤ pointers → Decided (IsSegment start at)
  segment_or_not zero start at within = from_place start (λ place falls. absurd (omega arith)) (length (drop at message)) at (drop at message) refl (omega arith)
  segment_or_not (suc pointers) start at within =
      from_place start (λ place falls. segment_or_not pointers place place (omega arith)) (length (drop at message)) at (drop at message) refl (omega arith)

  -- ---- the name

  labels_sized : {start at next : ℕ} {labels : Labels} → Segment message start at labels next → AllByRecursion IsLabel labels
  labels_sized (Ends rest is) = tt
  labels_sized (Goes label rest sized is more) = (sized, labels_sized more)
  labels_sized (Leads high low rest marked is below more) = labels_sized more

  pub spelled_or_not : (at : ℕ) → Decided (λ (found : Labels × ℕ). Spelled message at found.0 found.1)
  spelled_or_not at =
      by_part (segment_or_not at at at (omega arith)) (λ found is. (found, is.1))
      (λ found is only.
      elim (dec_le (wire_len found.0) 255) [
        | yes short ↦ one_value found ((labels_sized is, short), is) (λ other also. only other also.1)
        | no long ↦ no_value (λ other also. omega (arith, long, also.0.1, ap (λ (p : Labels × ℕ). wire_len p.0) (only other also.1)))
      ])
