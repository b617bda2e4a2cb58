-- What a part adds to data.
use Rattle.std.proofs.Common.{◌≡◌, ℕ, ◌+◌, ◌-◌, ◌≤◌, List, [], ◌∷◌, ◌++◌, length, take, drop, Result, Ok, Err, refl, sym, ap, ap₂, subst, ◌∙◌, arith, append_assoc, append-nil, length-drop, take-append-drop}
use Rattle.std.proofs.lemmas.List.{drop-append-le}
use Rattle.dn_name.specs.Name.{Labels, wire_of}
use Rattle.dn_name.specs.Spelled.{Spelled}
use Rattle.dn_rdata.specs.Laid.{Laid, Lies, Stands}
use Rattle.dn_rdata.specs.Layout.{IsData, text_bytes}
use Rattle.dn_rdata.specs.declared.parts.Part.{Part}
use Rattle.dn_rdata.specs.declared.parts.Part.TheVariants.{Bytes, OneName, OneText, Texts, Rest}
use Rattle.dn_message.specs.declared.rdata.PartError.{PartError}
use Rattle.dn_message.specs.declared.rdata.PartError.TheVariants as errors
use Rattle.dn_message.specs.ReplyReading.{Grows}
use Rattle.dn_message.proofs.FieldLemmas.{same_front}

-- what was added is the one of each kind that means the same
pub grows_alike : (Is Also : List ℕ × ℕ → Type 0) → ((found : List ℕ × ℕ) → Is found → Also found) → ((found : List ℕ × ℕ) → Also found → Is found)
    → (old new : List ℕ) (result : Result ℕ PartError) → Grows (λ piece next. (piece, next)) Is old new result → Grows (λ piece next. (piece, next)) Also old new result
grows_alike Is Also to from old new (Ok next) grows = (grows.0, grows.1, to (grows.0, next) grows.2, λ other is. grows.3 other (from other is))
grows_alike Is Also to from old new (Err errors.Missing) grows = λ other is. grows other (from other is)
grows_alike Is Also to from old new (Err errors.OutOfMemory) grows = tt

module _ (message : List ℕ) (at : ℕ) where
  -- ---- a string: its length byte says how many bytes it has

  text_in : (byte next : ℕ) (tail piece : List ℕ) → drop at message ≡ byte ∷ tail → length piece ≡ 1 + byte → Stands message at piece next → (text : List ℕ) × (piece ≡ text_bytes text)
  text_in byte next tail [] first size is = absurd (omega (arith, size))
  text_in byte next tail (head ∷ text) first size is =
      let same : byte ∷ tail ≡ head ∷ (text ++ drop next message) = sym first ∙ is.bytes in
      let same_head : byte ≡ head = cc in
      let head_is : head ≡ length text = omega (arith, size, same_head) in
      (text, ap (λ n. n ∷ text) head_is)

  module _ (end count byte : ℕ) (tail : List ℕ) (first : drop at message ≡ byte ∷ tail) (count_is : count ≡ 1 + byte) where
    pub text_of : (found : List ℕ × ℕ) → Lies message at end (Bytes count) found.0 found.1 → Lies message at end OneText found.0 found.1
    text_of found lies = let text = text_in byte found.1 tail found.0 first (lies.0 ∙ count_is) lies.1 in (text.0, text.1, lies.1)

    pub bytes_of_text : (found : List ℕ × ℕ) → Lies message at end OneText found.0 found.1 → Lies message at end (Bytes count) found.0 found.1
    bytes_of_text found lies =
        let same : byte ∷ tail ≡ length lies.0 ∷ (lies.0 ++ drop found.1 message) = sym first ∙ lies.2.bytes ∙ ap (λ xs. xs ++ drop found.1 message) lies.1 in
        let size : byte ≡ length lies.0 = cc in
        (omega (arith, ap length lies.1, size, count_is), lies.2)

  -- ---- all bytes up to the end

  pub rest_of : (end : ℕ) → at ≤ end → (found : List ℕ × ℕ) → Lies message at end (Bytes (end - at)) found.0 found.1 → Lies message at end Rest found.0 found.1
  rest_of end order found lies = (lies.1, omega (arith, lies.0, lies.1.next_is))

  pub bytes_of_rest : (end : ℕ) → at ≤ end → (found : List ℕ × ℕ) → Lies message at end Rest found.0 found.1 → Lies message at end (Bytes (end - at)) found.0 found.1
  bytes_of_rest end order found lies = (omega (arith, lies.0.next_is, lies.1), lies.0)

  -- ---- strings up to the end, which are the data of type 16

  -- what stands between the place and the end
  pub between : (end : ℕ) (front span : List ℕ) → front ≡ take end message → length front ≡ end → span ≡ drop at front → at ≤ length front
      → (drop at message ≡ span ++ drop end message) × (length span ≡ end - at)
  between end front span front_is size span_is order =
      let both : message ≡ front ++ drop end message = sym (take-append-drop end message) ∙ ap (λ xs. xs ++ drop end message) (sym front_is) in (
        ap (drop at) both ∙ drop-append-le at front (drop end message) order ∙ ap (λ xs. xs ++ drop end message) (sym span_is),
        omega (arith, ap length span_is, length-drop at front, size),
      )

  module _ (end : ℕ) (span : List ℕ) (stands : drop at message ≡ span ++ drop end message) (size : length span ≡ end - at) where
    span_is : (piece : List ℕ) (next : ℕ) → Stands message at piece next → next ≡ end → piece ≡ span
    span_is piece next is last = same_front piece span (drop next message) (drop end message) (omega (arith, is.next_is, last, size)) (sym is.bytes ∙ stands)

    pub texts_of : IsData 16 span → (found : List ℕ × ℕ) → Lies message at end Rest found.0 found.1 → Lies message at end Texts found.0 found.1
    texts_of is_data found lies =
        let part = is_data.1.2 in
        let all : span ≡ is_data.1.0 = is_data.1.1 ∙ ap (λ xs. is_data.1.0 ++ xs) is_data.2 ∙ append-nil is_data.1.0 in
        (part.0, part.1, span_is found.0 found.1 lies.0 lies.1 ∙ all ∙ part.2, lies.0, lies.1)

    pub rest_of_texts : (found : List ℕ × ℕ) → Lies message at end Texts found.0 found.1 → Lies message at end Rest found.0 found.1
    rest_of_texts found lies = (lies.3, lies.4)

    pub no_texts : (IsData 16 span → ⊥) → (found : List ℕ × ℕ) → Lies message at end Texts found.0 found.1 → ⊥
    no_texts none found lies =
        let all : span ≡ found.0 ++ [] = sym (span_is found.0 found.1 lies.3 lies.4) ∙ sym (append-nil found.0) in
        none ([], (found.0, all, (lies.0, lies.1, lies.2, refl)), refl)

  -- ---- a name

  pub name_of : (end next : ℕ) (name : Labels) (old new : List ℕ) → Spelled message at name next → ((other : Labels × ℕ) → Spelled message at other.0 other.1 → other ≡ (name, next))
      → new ≡ old ++ wire_of name → (piece : List ℕ) × (new ≡ old ++ piece) × Lies message at end OneName piece next
      × ((other : List ℕ × ℕ) → Lies message at end OneName other.0 other.1 → other ≡ (piece, next))
  name_of end next name old new is only added = (
    wire_of name,
    added,
    (name, is, refl),
    λ other lies.
        let same : (lies.0, other.1) ≡ (name, next) = only (lies.0, other.1) lies.1 in
        ap₂ (λ (xs : List ℕ) (n : ℕ). (xs, n)) (lies.2 ∙ ap (λ (p : Labels × ℕ). wire_of p.0) same) (ap (λ (p : Labels × ℕ). p.1) same),
  )

-- ---- one part and the others

module _ (message : List ℕ) (at end : ℕ) (part : Part) (parts all : List Part) (is_all : all ≡ part ∷ parts) where
  pub parts_then : (old between new piece : List ℕ) (next : ℕ) → between ≡ old ++ piece → Lies message at end part piece next
      → ((other : List ℕ × ℕ) → Lies message at end part other.0 other.1 → other ≡ (piece, next))
      → (result : Result (Unit {0}) PartError) → Grows (λ more _. more) (Laid message next end parts) between new result → Grows (λ more _. more) (Laid message at end all) old new result
  parts_then old between new piece next added lies only (Ok done) more = (
    piece ++ more.0,
    more.1 ∙ ap (λ xs. xs ++ more.0) added ∙ append_assoc old piece more.0,
    subst (λ ps. Laid message at end ps (piece ++ more.0)) (sym is_all) (piece, more.0, next, lies, refl, more.2),
    λ other is.
        let laid = subst (λ ps. Laid message at end ps other) is_all is in
        let same : (laid.0, laid.2) ≡ (piece, next) = only (laid.0, laid.2) laid.3 in
        laid.4 ∙ ap₂ (λ xs ys. xs ++ ys) (ap (λ (p : List ℕ × ℕ). p.0) same) (more.3 laid.1 (subst (λ n. Laid message n end parts laid.1) (ap (λ (p : List ℕ × ℕ). p.1) same) laid.5)),
  )
  parts_then old between new piece next added lies only (Err errors.Missing) more = λ other is.
      let laid = subst (λ ps. Laid message at end ps other) is_all is in
      let same : (laid.0, laid.2) ≡ (piece, next) = only (laid.0, laid.2) laid.3 in
      more laid.1 (subst (λ n. Laid message n end parts laid.1) (ap (λ (p : List ℕ × ℕ). p.1) same) laid.5)
  parts_then old between new piece next added lies only (Err errors.OutOfMemory) more = tt

  pub no_parts : (old between new : List ℕ) (why : PartError) → Grows {Found = ℕ} (λ piece next. (piece, next)) (λ (found : List ℕ × ℕ). Lies message at end part found.0 found.1) old between (Err why)
      → Grows {Found = Unit {0}} (λ more _. more) (Laid message at end all) old new (Err why)
  no_parts old between new errors.Missing none = λ other is.
      let laid = subst (λ ps. Laid message at end ps other) is_all is in
      none (laid.0, laid.2) laid.3
  no_parts old between new errors.OutOfMemory none = tt
