-- Bytes that aren't data of a type go wrong at one place.
use Rattle.std.proofs.Common.{◌≡◌, ℕ, ◌-◌, ◌⊎◌, inl, inr, true, false, List, [], ◌∷◌, ◌++◌, length, drop, refl, sym, ap, subst, ◌∙◌, true≢false}
use Rattle.dn_name.specs.PlainFault.{PlainFaultIsNoName, PlainFaultIsOne}
use Rattle.dn_rdata.specs.Layout.{Begins, DataFailsOnce, FailsAt, PartFails, are_fixed, parts_of}
use Rattle.dn_rdata.specs.declared.parts.Part.{Part}
use Rattle.dn_rdata.specs.declared.parts.Part.TheVariants.{Bytes, OneName, OneText, Texts, Rest}
use Rattle.dn_rdata.proofs.StoredLemmas.{name_once, same_split}

text_once : (text other back also : List ℕ) → length text ∷ (text ++ back) ≡ length other ∷ (other ++ also) → back ≡ also
text_once text other back also same =
    let size : length text ≡ length other = cc in
    let behind : text ++ back ≡ other ++ also = cc in
    (same_split text other back also size behind).1

-- behind a part at the front stands one rest
begins_once : (part : Part) (bytes back also : List ℕ) → Begins part bytes back → Begins part bytes also → back ≡ also
begins_once (Bytes count) bytes back also found other = (same_split found.0 other.0 back also (found.2 ∙ sym other.2) (sym found.1 ∙ other.1)).1
begins_once OneName bytes back also found other =
    let one = sym (ap (λ xs. xs ++ back) found.2.2) ∙ sym found.1 ∙ other.1 ∙ ap (λ xs. xs ++ also) other.2.2 in
    (name_once found.2.0 other.2.0 back also found.2.1 other.2.1 one).1
begins_once OneText bytes back also found other =
    text_once found.2.0 other.2.0 back also (sym (ap (λ xs. xs ++ back) found.2.1) ∙ sym found.1 ∙ other.1 ∙ ap (λ xs. xs ++ also) other.2.1)
begins_once Texts bytes back also found other = found.2.3 ∙ sym other.2.3
begins_once Rest bytes back also found other = found.2 ∙ sym other.2

module _ (one : PlainFaultIsOne) (none : PlainFaultIsNoName) (bytes : List ℕ) where
  part_once : (part : Part) (at place other : ℕ) → PartFails bytes at part place → PartFails bytes at part other → place ≡ other
  part_once (Bytes count) at place other fails also = fails.1 ∙ sym also.1
  part_once OneName at place other fails also = (one bytes at place other fails.0 also.0 fails.1 also.1).1
  part_once OneText at place other fails also = fails.1 ∙ sym also.1
  part_once Texts at place other fails also = fails.1 ∙ sym also.1
  part_once Rest at place other fails also = fails.1 ∙ sym also.1

  -- a part that stands doesn't go wrong
  stands_right : (part : Part) (at place : ℕ) (back : List ℕ) → PartFails bytes at part place → Begins part (drop at bytes) back → ⊥
  stands_right (Bytes count) at place back fails found = fails.0 back found
  stands_right OneName at place back fails found = none bytes at place fails.0 found.2.0 back fails.1 found.2.1 (found.1 ∙ ap (λ xs. xs ++ back) found.2.2)
  stands_right OneText at place back fails found = fails.0 back found
  stands_right Texts at place back fails found = fails.0 back found
  stands_right Rest at place back fails found = fails.0 back found

  fails_once : (parts : List Part) (at place other : ℕ) → FailsAt bytes at parts place → FailsAt bytes at parts other → place ≡ other
  fails_once [] at place other fails also = fails.1 ∙ sym also.1
  fails_once (part ∷ parts) at place other fails also =
      elim fails [
        | inl here ↦ elim also [ inl there ↦ part_once part at place other here there | inr later ↦ absurd (stands_right part at place later.0 here later.1) ]
        | inr later ↦
            elim also [
              | inl there ↦ absurd (stands_right part at other later.0 there later.1)
              | inr after ↦
                  let same = begins_once part (drop at bytes) later.0 after.0 later.1 after.1 in
                  fails_once parts (length bytes - length after.0) place other (subst (λ xs. FailsAt bytes (length bytes - length xs) parts place) same later.2) after.2
            ]
      ]

pub data_once : PlainFaultIsOne → PlainFaultIsNoName → DataFailsOnce
data_once one none rtype bytes place other fails also =
    elim fails [
      | inl fixed ↦ elim also [ inl is ↦ fixed.1 ∙ sym is.1 | inr not_so ↦ absurd (true≢false (sym fixed.0 ∙ not_so.0)) ]
      | inr parts ↦ elim also [ inl is ↦ absurd (true≢false (sym is.0 ∙ parts.0)) | inr same ↦ fails_once one none bytes (parts_of rtype) 0 place other parts.1 same.1 ]
    ]
