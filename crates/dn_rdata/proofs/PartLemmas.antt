-- The parts of data, one behind another.
use Rattle.std.proofs.Common.{◌≡◌, ◌↔◌, ℕ, ◌-◌, List, ◌∷◌, ◌++◌, length, take, drop, Option, None, Some, Result, IsOk, refl, sym, ap, subst, ◌∙◌, arith, append_assoc, drop_at, length-append, take-append-drop}
use Rattle.dn_rdata.specs.Layout.{AreParts, Begins, IsMissing}
use Rattle.dn_rdata.specs.declared.check.DataFault.{DataFault}
use Rattle.dn_rdata.specs.declared.parts.Part.{Part}

-- what is behind a part at a place stands where so many bytes are left
pub behind_is : (bytes : List ℕ) (at next : ℕ) (part : Part) (behind : List ℕ) → Begins part (drop at bytes) behind → next ≡ length bytes - length behind → drop next bytes ≡ behind
behind_is bytes at next part behind found size =
    let whole : bytes ≡ (take at bytes ++ found.0) ++ behind =
    sym (take-append-drop at bytes) ∙ ap (λ xs. take at bytes ++ xs) found.1 ∙ sym (append_assoc (take at bytes) found.0 behind) in
    ap (drop next) whole ∙ drop_at (take at bytes ++ found.0) behind next (omega (arith, size, ap length whole, length-append (take at bytes ++ found.0) behind))

module _ (part : Part) (parts all : List Part) (is_all : all ≡ part ∷ parts) (bytes : List ℕ) (at : ℕ) (rest : List ℕ) (is_rest : rest ≡ drop at bytes) where
  -- the first part stands there, and what is behind it decides
  pub part_then : (behind : List ℕ) (next : ℕ) → Begins part rest behind → ((back : List ℕ) → Begins part rest back → Some behind ≡ Some back) → next ≡ length bytes - length behind
      → (r : Result (Unit {0}) DataFault) → (IsOk r ↔ AreParts parts (drop next bytes)) → (IsOk r ↔ AreParts all (drop at bytes))
  part_then behind next found once size r more =
      let there = behind_is bytes at next part behind (subst (λ xs. Begins part xs behind) is_rest found) size in (
        λ ok. subst (λ these. AreParts these (drop at bytes)) (sym is_all) (behind, subst (λ xs. Begins part xs behind) is_rest found, subst (λ xs. AreParts parts xs) there (more.0 ok)),
        λ are.
            let split = subst (λ these. AreParts these (drop at bytes)) is_all are in
            let same : Some behind ≡ Some split.0 = once split.0 (subst (λ xs. Begins part xs split.0) (sym is_rest) split.1) in
            let back : split.0 ≡ behind = cc in
            more.1 (subst (λ xs. AreParts parts xs) (back ∙ sym there) split.2),
      )

  module _ (once : (back : List ℕ) → Begins part rest back → ◌≡◌ {A = Option (List ℕ)} None (Some back)) where
    -- the first part doesn't stand there
    pub is_missing : IsMissing part (drop at bytes)
    is_missing back found =
        let none : ◌≡◌ {A = Option (List ℕ)} None (Some back) = once back (subst (λ xs. Begins part xs back) (sym is_rest) found) in
        cc

    pub no_part : AreParts all (drop at bytes) → ⊥
    no_part are =
        let split = subst (λ these. AreParts these (drop at bytes)) is_all are in
        is_missing split.0 split.1
