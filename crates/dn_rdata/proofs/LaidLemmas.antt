-- Data that lie in a message.
use Rattle.std.proofs.Common.{◌≡◌, ℕ, ◌+◌, ◌<◌, ◌≤◌, List, [], ◌∷◌, ◌++◌, length, drop, take, refl, sym, ap, ap₂, subst, ◌∙◌, arith, append_assoc, drop_at, drop-drop, length-append, take_at}
use Rattle.std.proofs.lemmas.List.{nil_from_length}
use Rattle.dn_name.specs.Name.{Labels, wire_len, wire_of}
use Rattle.dn_name.specs.Spelled.{IsSpelledOnce, Segment, Ends, Goes, Leads, Spelled}
use Rattle.dn_name.proofs.CallerLemmas.{plain_spelled}
use Rattle.dn_rdata.specs.Laid.{Laid, Lies, Stands}
use Rattle.dn_rdata.specs.Layout.{AreParts, IsPart}
use Rattle.dn_rdata.specs.declared.parts.Part.{Part}
use Rattle.dn_rdata.specs.declared.parts.Part.TheVariants.{Bytes, OneName, OneText, Texts, Rest}

wire_size : (name : Labels) → length (wire_of name) ≡ wire_len name
wire_size [] = refl
wire_size (label ∷ name) = omega (arith, length-append label (wire_of name), wire_size name)

-- what stands behind a piece is what stands at its end
pub stands : (message : List ℕ) (at : ℕ) (piece back : List ℕ) → drop at message ≡ piece ++ back → Stands message at piece (at + length piece) × (drop (at + length piece) message ≡ back)
stands message at piece back e =
    let behind : drop (at + length piece) message ≡ back = sym (drop-drop (length piece) at message) ∙ ap (drop (length piece)) e ∙ drop_at piece back (length piece) refl in
    (record { bytes = e ∙ ap (λ xs. piece ++ xs) (sym behind); next_is = refl }, behind)

module _ (message : List ℕ) where
  -- a part in its wire form lies where its bytes stand
  part_lies : (at end : ℕ) (part : Part) (piece back rest : List ℕ) → IsPart part piece back → drop at message ≡ piece ++ (back ++ rest) → end ≡ at + length piece + length back
      → Lies message at end part piece (at + length piece)
  part_lies at end (Bytes count) piece back rest is e reach = (is, (stands message at piece (back ++ rest) e).0)
  part_lies at end OneName piece back rest is e reach =
      let size : length piece ≡ wire_len is.0 = ap length is.2 ∙ wire_size is.0 in
      let there : drop at message ≡ wire_of is.0 ++ (back ++ rest) = e ∙ ap (λ xs. xs ++ (back ++ rest)) is.2 in
      (is.0, subst (λ n. Spelled message at is.0 (at + n)) (sym size) (plain_spelled message at is.0 (back ++ rest) is.1 there), is.2)
  part_lies at end OneText piece back rest is e reach = (is.0, is.1, (stands message at piece (back ++ rest) e).0)
  part_lies at end Texts piece back rest is e reach = (is.0, is.1, is.2, (stands message at piece (back ++ rest) e).0, omega (arith, ap length is.3))
  part_lies at end Rest piece back rest is e reach = ((stands message at piece (back ++ rest) e).0, omega (arith, ap length is))

  pub parts_lie : (parts : List Part) (at end : ℕ) (rdata rest : List ℕ) → AreParts parts rdata → drop at message ≡ rdata ++ rest → end ≡ at + length rdata
      → Laid message at end parts rdata
  parts_lie [] at end rdata rest are e reach = (are, omega (arith, ap length are))
  parts_lie (part ∷ parts) at end rdata rest are e reach =
      let back = are.0 in
      let piece = are.1.0 in
      let there : drop at message ≡ piece ++ (back ++ rest) = e ∙ ap (λ xs. xs ++ rest) are.1.1 ∙ append_assoc piece back rest in
      let reached : end ≡ at + length piece + length back = omega (arith, ap length are.1.1, length-append piece back) in (
        piece,
        back,
        at + length piece,
        part_lies at end part piece back rest are.1.2 there reached,
        are.1.1,
        parts_lie parts (at + length piece) end back rest are.2 (stands message at piece (back ++ rest) there).1 reached,
      )

  -- a name takes a byte at least
  name_grows : {start at next : ℕ} {labels : Labels} → Segment message start at labels next → at < next
  name_grows (Ends rest is) = omega arith
  name_grows {at} (Goes label rest sized is more) = omega (arith, name_grows more)
  name_grows (Leads high low rest marked is below more) = omega arith

  -- a part lies behind its place, and has no bytes where the next place is its own
  part_grows : (at end : ℕ) (part : Part) (piece : List ℕ) (next : ℕ) → Lies message at end part piece next → (at ≤ next) × (next ≤ at → length piece ≡ 0)
  part_grows at end (Bytes count) piece next lies = (omega (arith, lies.1.next_is), λ h. omega (arith, lies.1.next_is))
  part_grows at end OneName piece next lies = (omega (arith, name_grows lies.1.1), λ h. absurd (omega (arith, name_grows lies.1.1)))
  part_grows at end OneText piece next lies = (omega (arith, lies.2.next_is), λ h. omega (arith, lies.2.next_is))
  part_grows at end Texts piece next lies = (omega (arith, lies.3.next_is), λ h. omega (arith, lies.3.next_is))
  part_grows at end Rest piece next lies = (omega (arith, lies.0.next_is), λ h. omega (arith, lies.0.next_is))

  -- data that end where they begin have no bytes
  parts_grow : (parts : List Part) (at end : ℕ) (rdata : List ℕ) → Laid message at end parts rdata → (at ≤ end) × (end ≤ at → length rdata ≡ 0)
  parts_grow [] at end rdata laid = (omega (arith, laid.1), λ h. ap length laid.0)
  parts_grow (part ∷ parts) at end rdata laid =
      let first = part_grows at end part laid.0 laid.2 laid.3 in
      let others = parts_grow parts laid.2 end laid.1 laid.5 in (
        omega (arith, first.0, others.0),
        λ h. omega (arith, ap length laid.4, length-append laid.0 laid.1, first.1 (omega (arith, others.0)), others.1 (omega (arith, first.0))),
      )

  part_is : (at end : ℕ) (part : Part) (piece back : List ℕ) (next : ℕ) → Lies message at end part piece next → (next ≡ end → back ≡ []) → IsPart part piece back
  part_is at end (Bytes count) piece back next lies last = lies.0
  part_is at end OneName piece back next lies last = (lies.0, lies.1.0, lies.2)
  part_is at end OneText piece back next lies last = (lies.0, lies.1)
  part_is at end Texts piece back next lies last = (lies.0, lies.1, lies.2, last lies.4)
  part_is at end Rest piece back next lies last = last lies.1

  pub parts_are : (parts : List Part) (at end : ℕ) (rdata : List ℕ) → Laid message at end parts rdata → AreParts parts rdata
  parts_are [] at end rdata laid = laid.0
  parts_are (part ∷ parts) at end rdata laid =
      let last : laid.2 ≡ end → laid.1 ≡ [] = λ same. nil_from_length laid.1 ((parts_grow parts laid.2 end laid.1 laid.5).1 (omega arith)) in
      (laid.1, (laid.0, laid.4, part_is at end part laid.0 laid.1 laid.2 laid.3 last), parts_are parts laid.2 end laid.1 laid.5)

  -- pieces that stand at one place and have one length are equal
  stands_once : (at next after : ℕ) (piece other : List ℕ) → Stands message at piece next → Stands message at other after → length piece ≡ length other → (piece ≡ other) × (next ≡ after)
  stands_once at next after piece other is also same =
      let front : piece ≡ take (length piece) (drop at message) = sym (take_at piece (drop next message) (length piece) refl) ∙ ap (take (length piece)) (sym is.bytes) in
      let behind : other ≡ take (length other) (drop at message) = sym (take_at other (drop after message) (length other) refl) ∙ ap (take (length other)) (sym also.bytes) in
      (front ∙ ap (λ n. take n (drop at message)) same ∙ sym behind, omega (arith, is.next_is, also.next_is))

  text_size : (at next after : ℕ) (text other : List ℕ) → Stands message at (length text ∷ text) next → Stands message at (length other ∷ other) after → length text ≡ length other
  text_size at next after text other is also =
      let both : length text ∷ (text ++ drop next message) ≡ length other ∷ (other ++ drop after message) = sym is.bytes ∙ also.bytes in
      cc

  module _ (once : IsSpelledOnce) where
    part_once : (at end : ℕ) (part : Part) (piece other : List ℕ) (next after : ℕ) → Lies message at end part piece next → Lies message at end part other after
        → (piece ≡ other) × (next ≡ after)
    part_once at end (Bytes count) piece other next after lies also = stands_once at next after piece other lies.1 also.1 (lies.0 ∙ sym also.0)
    part_once at end OneName piece other next after lies also =
        let same = once message at next after lies.0 also.0 lies.1 also.1 in
        (lies.2 ∙ ap wire_of same.0 ∙ sym also.2, same.1)
    part_once at end OneText piece other next after lies also =
        let is = subst (λ xs. Stands message at xs next) lies.1 lies.2 in
        let is_also = subst (λ xs. Stands message at xs after) also.1 also.2 in
        stands_once at next after piece other lies.2 also.2 (omega (arith, ap length lies.1, ap length also.1, text_size at next after lies.0 also.0 is is_also))
    part_once at end Texts piece other next after lies also =
        stands_once at next after piece other lies.3 also.3 (omega (arith, lies.3.next_is, also.3.next_is, lies.4, also.4))
    part_once at end Rest piece other next after lies also =
        stands_once at next after piece other lies.0 also.0 (omega (arith, lies.0.next_is, also.0.next_is, lies.1, also.1))

    pub parts_once : (parts : List Part) (at place end : ℕ) (rdata other : List ℕ) → at ≡ place → Laid message at end parts rdata → Laid message place end parts other → rdata ≡ other
    parts_once [] at place end rdata other start laid also = laid.0 ∙ sym also.0
    parts_once (part ∷ parts) at place end rdata other start laid also =
        let there = subst (λ k. Lies message k end part also.0 also.2) (sym start) also.3 in
        let first = part_once at end part laid.0 also.0 laid.2 also.2 laid.3 there in
        laid.4 ∙ ap₂ (λ xs ys. xs ++ ys) first.0 (parts_once parts laid.2 also.2 end laid.1 also.1 first.1 laid.5 also.5) ∙ sym also.4
