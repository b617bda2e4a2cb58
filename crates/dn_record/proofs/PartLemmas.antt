-- The parts of data, and both the forms that they give.
use Rattle.std.proofs.Common.{◌≡◌, ℕ, zero, suc, ◌≤◌, ◌<◌, inl, inr, List, [], ◌∷◌, ◌++◌, length, Option, Some, take, drop, refl, sym, ap, subst, ◌∙◌, arith, append-nil, length-append, take-append-drop, ap₂}
use Rattle.std.proofs.lemmas.List.{nil_from_length}
use Rattle.dn_name.specs.Name.{Labels}
use Rattle.dn_rdata.specs.Layout.{IsData}
use Rattle.dn_rdata.specs.Record.{bytes_before_names, bytes_behind_names, names_in}
use Rattle.dn_rdata.specs.Stored.{HasNames, IsStored, counteds_of, wires_of}
use Rattle.dn_rdata.proofs.CallerLemmas.{counteds_once, data_stored, names_most, names_once, same_split}
use Rattle.dn_record.specs.declared.parts.DataParts.{DataParts}
use Rattle.dn_record.specs.Names.{Begin, name_or_none}
use Rattle.dn_record.specs.Parts.{names_of, stored_of_parts, wire_of_parts}

-- two pieces that a cut gives
pub cut : (bytes front back : List ℕ) (count : ℕ) → front ≡ take count bytes → back ≡ drop count bytes → bytes ≡ front ++ back
cut bytes front back count front_is back_is = sym (take-append-drop count bytes) ∙ ap₂ (λ (xs ys : List ℕ). xs ++ ys) (sym front_is) (sym back_is)

pub one_or_two : (rtype count : ℕ) → count ≡ names_in rtype → (count ≡ 0 → ⊥) → (1 ≤ count) × (count ≤ 2)
one_or_two rtype count is some = (by_count count some, omega (arith, is, names_most rtype))
  where
    by_count : (n : ℕ) → (n ≡ 0 → ⊥) → 1 ≤ n
    by_count zero some = absurd (some refl)
    by_count (suc n) some = omega arith

module _ (rtype : ℕ) (some : 1 ≤ names_in rtype) where
  pub has_names : (stored rdata : List ℕ) → IsStored rtype stored rdata → HasNames rtype stored rdata
  has_names stored rdata (inl is) = absurd (omega (arith, some, is.0))
  has_names stored rdata (inr is) = is.1

  pub both_forms : (before behind : List ℕ) (names : List Labels) (stored rdata : List ℕ) (bytes back : List ℕ) (bytes_of : List Labels → List ℕ) (count : ℕ) → count ≡ names_in rtype
      → length before ≡ bytes_before_names rtype → length behind ≡ bytes_behind_names rtype → Begin bytes_of count bytes names back
      → rdata ≡ before ++ (wires_of names ++ behind) → stored ≡ before ++ (behind ++ counteds_of names) → IsStored rtype stored rdata
  both_forms before behind names stored rdata bytes back bytes_of count count_is before_len behind_len begin wire_is stored_is =
      inr (
        some,
        record {
          before = before;
          behind = behind;
          names = names;
          before_len = before_len;
          behind_len = behind_len;
          count = begin.0.0 ∙ count_is;
          named = begin.0.1;
          wire_is = wire_is;
          stored_is = stored_is;
        },
      )

  -- ---- stored data

  module _ (stored : List ℕ) where
    pub stored_before : length stored < bytes_before_names rtype → (rdata : List ℕ) → IsStored rtype stored rdata → ⊥
    stored_before short rdata is =
        let has = has_names stored rdata is in
        omega (arith, short, has.before_len, ap length has.stored_is, length-append has.before (has.behind ++ counteds_of has.names))

    module _ (before rest : List ℕ) (before_len : length before ≡ bytes_before_names rtype) (split : stored ≡ before ++ rest) where
      rest_is : (rdata : List ℕ) (is : IsStored rtype stored rdata) → rest ≡ (has_names stored rdata is).behind ++ counteds_of (has_names stored rdata is).names
      rest_is rdata is =
          let has = has_names stored rdata is in
          (same_split before has.before rest (has.behind ++ counteds_of has.names) (before_len ∙ sym has.before_len) (sym split ∙ has.stored_is)).1

      pub stored_behind : length rest < bytes_behind_names rtype → (rdata : List ℕ) → IsStored rtype stored rdata → ⊥
      stored_behind short rdata is =
          let has = has_names stored rdata is in
          omega (arith, short, has.behind_len, ap length (rest_is rdata is), length-append has.behind (counteds_of has.names))

      module _ (behind bytes : List ℕ) (behind_len : length behind ≡ bytes_behind_names rtype) (again : rest ≡ behind ++ bytes) (count : ℕ) (count_is : count ≡ names_in rtype) where
        bytes_are : (rdata : List ℕ) (is : IsStored rtype stored rdata) → bytes ≡ counteds_of (has_names stored rdata is).names
        bytes_are rdata is =
            let has = has_names stored rdata is in
            (same_split behind has.behind bytes (counteds_of has.names) (behind_len ∙ sym has.behind_len) (sym again ∙ rest_is rdata is)).1

        pub stored_found : (names : List Labels) (back : List ℕ) → Begin counteds_of count bytes names back → length back ≡ 0
            → IsStored rtype stored (before ++ (wires_of names ++ behind))
        stored_found names back begin none =
            let ends : bytes ≡ counteds_of names = begin.1 ∙ ap (λ xs. counteds_of names ++ xs) (nil_from_length back none) ∙ append-nil (counteds_of names) in
            both_forms before behind names stored (before ++ (wires_of names ++ behind)) bytes back counteds_of count count_is before_len behind_len begin refl
            (split ∙ ap (λ xs. before ++ xs) (again ∙ ap (λ xs. behind ++ xs) ends))

        pub stored_names : ((names : List Labels) (back : List ℕ) → Begin counteds_of count bytes names back → ⊥) → (rdata : List ℕ) → IsStored rtype stored rdata → ⊥
        stored_names none rdata is =
            let has = has_names stored rdata is in
            none has.names [] ((has.count ∙ sym count_is, has.named), bytes_are rdata is ∙ sym (append-nil (counteds_of has.names)))

        pub stored_more : (names : List Labels) (back : List ℕ) → Begin counteds_of count bytes names back → 1 ≤ length back → (rdata : List ℕ) → IsStored rtype stored rdata → ⊥
        stored_more names back begin more rdata is =
            let has = has_names stored rdata is in
            let same = counteds_once names has.names back [] (begin.0.0 ∙ count_is ∙ sym has.count) begin.0.1 has.named
            (sym begin.1 ∙ bytes_are rdata is ∙ sym (append-nil (counteds_of has.names))) in
            omega (arith, more, ap length same.1)

  -- ---- data on the wire

  module _ (rdata : List ℕ) where
    pub wire_before : length rdata < bytes_before_names rtype → IsData rtype rdata → ⊥
    wire_before short is =
        let form = data_stored rtype rdata is in
        let has = has_names form.0 rdata form.1 in
        omega (arith, short, has.before_len, ap length has.wire_is, length-append has.before (wires_of has.names ++ has.behind))

    module _ (before rest : List ℕ) (before_len : length before ≡ bytes_before_names rtype) (split : rdata ≡ before ++ rest) (count : ℕ) (count_is : count ≡ names_in rtype) where
      pub wire_found : (names : List Labels) (behind : List ℕ) → Begin wires_of count rest names behind → length behind ≡ bytes_behind_names rtype
          → IsStored rtype (before ++ (behind ++ counteds_of names)) rdata
      wire_found names behind begin behind_len =
          both_forms before behind names (before ++ (behind ++ counteds_of names)) rdata rest behind wires_of count count_is before_len behind_len begin
          (split ∙ ap (λ xs. before ++ xs) begin.1) refl

      wire_rest : (stored : List ℕ) (has : HasNames rtype stored rdata) → rest ≡ wires_of has.names ++ has.behind
      wire_rest stored has = (same_split before has.before rest (wires_of has.names ++ has.behind) (before_len ∙ sym has.before_len) (sym split ∙ has.wire_is)).1

      pub wire_names : ((names : List Labels) (back : List ℕ) → Begin wires_of count rest names back → ⊥) → IsData rtype rdata → ⊥
      wire_names none is =
          let form = data_stored rtype rdata is in
          let has = has_names form.0 rdata form.1 in
          none has.names has.behind ((has.count ∙ sym count_is, has.named), wire_rest form.0 has)

      pub wire_more : (names : List Labels) (behind : List ℕ) → Begin wires_of count rest names behind → (length behind ≡ bytes_behind_names rtype → ⊥) → IsData rtype rdata → ⊥
      wire_more names behind begin other is =
          let form = data_stored rtype rdata is in
          let has = has_names form.0 rdata form.1 in
          let same = names_once names has.names behind has.behind (begin.0.0 ∙ count_is ∙ sym has.count) begin.0.1 has.named (sym begin.1 ∙ wire_rest form.0 has) in
          other (ap length same.1 ∙ has.behind_len)

-- the forms that parts give which have these pieces
module _ (rtype : ℕ) (bytes : List ℕ) (parts : DataParts) (before behind : List ℕ) (first : Labels) (second : Option Labels) (before_is : parts.before.now ≡ before)
    (first_is : parts.first ≡ Some first) (second_is : parts.second ≡ second) (behind_is : parts.behind.now ≡ behind) where
  names_same : names_of parts ≡ first ∷ name_or_none second
  names_same = ap₂ (λ (a b : Option Labels). name_or_none a ++ name_or_none b) first_is second_is

  pub stored_as : IsStored rtype bytes (before ++ (wires_of (first ∷ name_or_none second) ++ behind)) → IsStored rtype bytes (wire_of_parts parts)
  stored_as is =
      subst (λ xs. IsStored rtype bytes xs)
      (sym (ap₂ (λ (xs ys : List ℕ). xs ++ ys) before_is (ap₂ (λ (ns : List Labels) (ys : List ℕ). wires_of ns ++ ys) names_same behind_is))) is

  pub wire_as : IsStored rtype (before ++ (behind ++ counteds_of (first ∷ name_or_none second))) bytes → IsStored rtype (stored_of_parts parts) bytes
  wire_as is =
      subst (λ xs. IsStored rtype xs bytes)
      (sym (ap₂ (λ (xs ys : List ℕ). xs ++ ys) before_is (ap₂ (λ (ns : List Labels) (ys : List ℕ). ys ++ counteds_of ns) names_same behind_is))) is
