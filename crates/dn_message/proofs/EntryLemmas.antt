-- Entries that are read one behind another.
use Rattle.std.proofs.Common.{◌≡◌, ℕ, ◌+◌, List, [], ◌∷◌, ◌++◌, refl, sym, ap, ap₂, subst, ◌∙◌, arith, append_assoc, append-nil, Err}
use Rattle.dn_message.specs.declared.error.ReadError.{ReadError}
use Rattle.dn_message.specs.declared.error.ReadError.TheVariants as errors
use Rattle.dn_message.specs.Reads.{Reads}
use Rattle.dn_message.specs.ReplyReading.{AreEntries}

-- where a fault of a part is a fault of the whole, so is what a reader of the part refuses
pub refused : {Part Whole : Type 0} (IsPart : Part → Type 0) (IsWhole : Whole → Type 0) (why : ReadError) → Reads IsPart (Err why)
    → (((part : Part) → IsPart part → ⊥) → (whole : Whole) → IsWhole whole → ⊥) → Reads IsWhole (Err why)
refused IsPart IsWhole (errors.Form fault) none on = on none
refused IsPart IsWhole errors.OutOfMemory none on = tt

module _ {Entry : Type 0} (Is : ℕ → Entry → ℕ → Type 0) where
  -- what entries from this place on, so many, complete those that were read
  pub record Completing (count at : ℕ) (done : List Entry) (left place : ℕ) : Type 0 where
    pub goes : (rest : List Entry) (next : ℕ) → AreEntries Is left place rest next → AreEntries Is count at (done ++ rest) next
    pub only : (all : List Entry) (next : ℕ) → AreEntries Is count at all next → (rest : List Entry) × AreEntries Is left place rest next × (all ≡ done ++ rest)

  pub started : (count at : ℕ) → Completing count at [] count at
  started count at = record { goes = λ rest next are. are; only = λ all next are. (all, are, refl) }

  first_of : (left place next : ℕ) (all : List Entry) → AreEntries Is (left + 1) place all next
      → (entry : Entry) × (rest : List Entry) × (behind : ℕ) × Is place entry behind × AreEntries Is left behind rest next × (all ≡ entry ∷ rest)
  first_of left place next [] are = absurd (omega (arith, are.0))
  first_of left place next (entry ∷ rest) are = (entry, rest, are.1.0, are.1.1, (omega (arith, are.0), are.1.2), refl)

  module _ (count at : ℕ) (done : List Entry) (left place : ℕ) (so_far : Completing count at done (left + 1) place) where
    pub one_read : (entry : Entry) (behind : ℕ) → Is place entry behind → ((other : Entry × ℕ) → Is place other.0 other.1 → other ≡ (entry, behind))
        → Completing count at (done ++ entry ∷ []) left behind
    one_read entry behind is only =
        record {
          goes = λ rest next are.
              subst (λ xs. AreEntries Is count at xs next) (sym (append_assoc done (entry ∷ []) rest))
              (so_far.goes (entry ∷ rest) next (omega (arith, are.0), (behind, is, are.1)));
          only = λ all next are.
              let found = so_far.only all next are in
              let first = first_of left place next found.0 found.1 in
              let same : (first.0, first.2) ≡ (entry, behind) = only (first.0, first.2) first.3 in (
                first.1,
                subst (λ k. AreEntries Is left k first.1 next) (ap (λ (p : Entry × ℕ). p.1) same) first.4,
                found.2 ∙ ap (λ xs. done ++ xs) first.5 ∙ ap (λ x. done ++ (x ∷ first.1)) (ap (λ (p : Entry × ℕ). p.0) same) ∙ sym (append_assoc done (entry ∷ []) first.1),
              );
        }

    pub none_read : ((other : Entry × ℕ) → Is place other.0 other.1 → ⊥) → (found : List Entry × ℕ) → AreEntries Is count at found.0 found.1 → ⊥
    none_read none found are =
        let rest = so_far.only found.0 found.1 are in
        let first = first_of left place found.1 rest.0 rest.1 in
        none (first.0, first.2) first.3

  end_of : (place next : ℕ) (rest : List Entry) → AreEntries Is 0 place rest next → (rest ≡ []) × (next ≡ place)
  end_of place next [] are = (refl, are.1)
  end_of place next (entry ∷ rest) are = absurd (omega (arith, are.0))

  pub all_read : (count at left place : ℕ) (done : List Entry) → left ≡ 0 → Completing count at done left place
      → AreEntries Is count at done place × ((other : List Entry × ℕ) → AreEntries Is count at other.0 other.1 → other ≡ (done, place))
  all_read count at left place done none so_far = (
    subst (λ xs. AreEntries Is count at xs place) (append-nil done) (so_far.goes [] place (sym none, refl)),
    λ other are.
        let rest = so_far.only other.0 other.1 are in
        let end = end_of place other.1 rest.0 (subst (λ n. AreEntries Is n place rest.0 other.1) none rest.1) in
        ap₂ (λ (xs : List Entry) (n : ℕ). (xs, n)) (rest.2 ∙ ap (λ xs. done ++ xs) end.0 ∙ append-nil done) end.1,
  )
