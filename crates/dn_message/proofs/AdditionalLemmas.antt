-- What one additional record more completes.
use Rattle.std.proofs.Common.{◌≡◌, ℕ, ◌+◌, Bool, true, false, ◌||◌, nat_eq, if◌then◌else◌, cond, List, [], ◌∷◌, length, Option, None, Some, refl, sym, ap, subst, ◌∙◌, arith}
use Rattle.std.specs.List.{filter, list_any}
use Rattle.std.proofs.lemmas.Bool.Decides.{nat_tests}
use Rattle.dn_message.specs.declared.additional.Seen.{Seen}
use Rattle.dn_message.specs.declared.query.Opt.{Opt}
use Rattle.dn_message.specs.declared.record.RecordHead.{RecordHead}
use Rattle.dn_message.specs.Query.{HasOpt, is_opt, is_signature, opt_of}
use Rattle.dn_message.specs.Reading.{Completes, FindsOpt, PassesOne, SeesOne, first_opt, has_signature, saw}
use Rattle.dn_message.specs.Record.{AreRrs, IsRr, any_data}
use Rattle.dn_message.specs.declared.rr.Rr.{Rr}

module _ (row : Rr) (opts : List Rr) where
  opt_goes : (b : Bool) (o : Option Opt) (s t : Bool) (new : Seen) (found : Option Opt)
      → (if b then first_opt o (record { opt = Some (opt_of row); signed = s }) else Some (record { opt = o; signed = t })) ≡ Some new
      → FindsOpt new.opt opts found → FindsOpt o (cond b (row ∷ opts) opts) found
  opt_goes true None s t new found e f =
      let is : Some (opt_of row) ≡ new.opt = cc in
      let h = subst (λ o. FindsOpt o opts found) (sym is) f in
      subst (HasOpt (row ∷ opts)) (sym h.1) (row, ap (λ xs. row ∷ xs) h.0, refl)
  opt_goes true (Some o) s t new found e f = absurd (cc)
  opt_goes false o s t new found e f =
      let is : new.opt ≡ o = cc in
      subst (λ x. FindsOpt x opts found) is f

  opt_only : (b : Bool) (o : Option Opt) (s t : Bool) (new : Seen) (found : Option Opt)
      → (if b then first_opt o (record { opt = Some (opt_of row); signed = s }) else Some (record { opt = o; signed = t })) ≡ Some new
      → FindsOpt o (cond b (row ∷ opts) opts) found → FindsOpt new.opt opts found
  opt_only true None s t new None e f = absurd (cc)
  opt_only true None s t new (Some opt) e f =
      let is : Some (opt_of row) ≡ new.opt = cc in
      let same : row ≡ f.0 = cc in
      subst (λ o. FindsOpt o opts (Some opt)) is (cc, ap Some (f.2 ∙ ap opt_of (sym same)))
  opt_only true (Some o) s t new found e f = absurd (cc)
  opt_only false o s t new found e f =
      let is : o ≡ new.opt = cc in
      subst (λ x. FindsOpt x opts found) is f

  opt_none : (b : Bool) (o : Option Opt) (s t : Bool) (found : Option Opt)
      → (if b then first_opt o (record { opt = Some (opt_of row); signed = s }) else Some (record { opt = o; signed = t })) ≡ None
      → FindsOpt o (cond b (row ∷ opts) opts) found → ⊥
  opt_none true None s t found e f = absurd (cc)
  opt_none true (Some o) s t found e f = absurd (cc f.0)
  opt_none false o s t found e f = absurd (cc)

  signed_on : (b : Bool) (o : Option Opt) (s t any : Bool) (new : Seen) → (b ≡ true → t ≡ false)
      → (if b then first_opt o (record { opt = Some (opt_of row); signed = s }) else Some (record { opt = o; signed = s || t })) ≡ Some new
      → (new.signed || any) ≡ (s || (t || any))
  signed_on true None s t any new h e =
      let is : new.signed ≡ s = cc in
      rw (is, h refl) refl
  signed_on true (Some o) s t any new h e = absurd (cc)
  signed_on false o s t any new h e =
      let is : new.signed ≡ (s || t) = cc in
      rw is (or_assoc s t any)
    where
      or_assoc : (s t any : Bool) → ((s || t) || any) ≡ (s || (t || any))
      or_assoc true t any = refl
      or_assoc false t any = refl

disjoint : (n : ℕ) → nat_eq n 41 ≡ true → nat_eq n 250 ≡ false
disjoint n h = grind (arith, nat_tests)

module _ (message : List ℕ) (at next : ℕ) (row : Rr) (is : IsRr any_data message at row next)
    (only : (other : Rr × ℕ) → IsRr any_data message at other.0 other.1 → other ≡ (row, next)) (old : Seen) where
  sees_one : (new : Seen) → saw old row.rtype row.rclass row.ttl ≡ Some new → (count : ℕ) → SeesOne message count at old next new
  sees_one new e count =
      record {
        goes = λ final f. record {
          rows = row ∷ f.rows;
          count_is = omega (arith, f.count_is);
          stand = (next, is, f.stand);
          opt_is = opt_goes row (filter is_opt f.rows) (is_opt row) old.opt old.signed (old.signed || nat_eq row.rtype 250) new final.opt e f.opt_is;
          signed_is = f.signed_is ∙ signed_on row [] (is_opt row) old.opt old.signed (nat_eq row.rtype 250) (list_any is_signature f.rows) new (disjoint row.rtype) e;
        };
        only = λ final f. only_one final f.rows f.count_is f.stand f.opt_is f.signed_is;
      }
    where
      only_one : (final : Seen) (rows : List Rr) → length rows ≡ count + 1 → AreRrs any_data message at rows (length message) → FindsOpt old.opt (filter is_opt rows) final.opt
          → final.signed ≡ has_signature old.signed rows → Completes message count next new final
      only_one final [] n stand opt signed = absurd (omega arith)
      only_one final (first ∷ rows) n stand opt signed =
          let same : (first, stand.0) ≡ (row, next) = only (first, stand.0) stand.1 in
          let same_first : first ≡ row = ap (λ (p : Rr × ℕ). p.0) same in
          record {
            rows = rows;
            count_is = omega (arith, n);
            stand = subst (λ k. AreRrs any_data message k rows (length message)) (ap (λ (p : Rr × ℕ). p.1) same) stand.2;
            opt_is = opt_only row (filter is_opt rows) (is_opt row) old.opt old.signed (old.signed || nat_eq row.rtype 250) new final.opt e
                (subst (λ x. FindsOpt old.opt (filter is_opt (x ∷ rows)) final.opt) same_first opt);
            signed_is = subst (λ x. final.signed ≡ has_signature old.signed (x ∷ rows)) same_first signed
                ∙ sym (signed_on row [] (is_opt row) old.opt old.signed (nat_eq row.rtype 250) (list_any is_signature rows) new (disjoint row.rtype) e);
          }

  sees_none : saw old row.rtype row.rclass row.ttl ≡ None → (count : ℕ) (final : Seen) → Completes message (count + 1) at old final → ⊥
  sees_none e count final f = by_rows f.rows f.count_is f.stand f.opt_is
    where
      by_rows : (rows : List Rr) → length rows ≡ count + 1 → AreRrs any_data message at rows (length message) → FindsOpt old.opt (filter is_opt rows) final.opt → ⊥
      by_rows [] n stand opt = omega arith
      by_rows (first ∷ rows) n stand opt =
          let same_first : first ≡ row = ap (λ (p : Rr × ℕ). p.0) (only (first, stand.0) stand.1) in
          opt_none row (filter is_opt rows) (is_opt row) old.opt old.signed (old.signed || nat_eq row.rtype 250) final.opt e
          (subst (λ x. FindsOpt old.opt (filter is_opt (x ∷ rows)) final.opt) same_first opt)

-- ---- a record that was passed

module _ (message : List ℕ) (at : ℕ) (head : RecordHead) (next : ℕ) (p : PassesOne message at head next) (old : Seen) where
  pub passed_one : (new : Seen) → saw old head.rtype head.rclass head.ttl ≡ Some new → (count : ℕ) → SeesOne message count at old next new
  passed_one new e = sees_one message at next p.row p.is p.only old new (subst (λ (h : RecordHead). saw old h.rtype h.rclass h.ttl ≡ Some new) p.head_is e)

  pub passed_second : saw old head.rtype head.rclass head.ttl ≡ None → (count : ℕ) (final : Seen) → Completes message (count + 1) at old final → ⊥
  passed_second e = sees_none message at next p.row p.is p.only old (subst (λ (h : RecordHead). saw old h.rtype h.rclass h.ttl ≡ None) p.head_is e)

pub no_row : (message : List ℕ) (at : ℕ) (old : Seen) → ((other : Rr × ℕ) → IsRr any_data message at other.0 other.1 → ⊥) → (count : ℕ) (final : Seen) → Completes message (count + 1) at old final → ⊥
no_row message at old none count final f = by_rows f.rows f.count_is f.stand
  where
    by_rows : (rows : List Rr) → length rows ≡ count + 1 → AreRrs any_data message at rows (length message) → ⊥
    by_rows [] n stand = omega arith
    by_rows (first ∷ rows) n stand = none (first, stand.0) stand.1

-- ---- the end of the records

finds_nothing : (o : Option Opt) → FindsOpt o [] o
finds_nothing None = refl
finds_nothing (Some opt) = (refl, refl)

only_nothing : (o found : Option Opt) → FindsOpt o [] found → found ≡ o
only_nothing None None f = refl
only_nothing None (Some opt) f = absurd (cc)
only_nothing (Some opt) found f = f.1

or_false : (b : Bool) → (b || false) ≡ b
or_false true = refl
or_false false = refl

pub at_end : (message : List ℕ) (count at : ℕ) (seen : Seen) → count ≡ 0 → at ≡ length message → Completes message count at seen seen
at_end message count at seen none end =
    record { rows = []; count_is = sym none; stand = sym end; opt_is = finds_nothing seen.opt; signed_is = sym (or_false seen.signed) }

pub record AtEnd (message : List ℕ) (at : ℕ) (seen final : Seen) : Type 0 where
  pub place : at ≡ length message
  pub final_is : final ≡ seen

pub only_end : (message : List ℕ) (count at : ℕ) (seen final : Seen) → count ≡ 0 → Completes message count at seen final → AtEnd message at seen final
only_end message count at seen final none f = by_rows f.rows f.count_is f.stand f.opt_is f.signed_is
  where
    by_rows : (rows : List Rr) → length rows ≡ count → AreRrs any_data message at rows (length message) → FindsOpt seen.opt (filter is_opt rows) final.opt
        → final.signed ≡ has_signature seen.signed rows → AtEnd message at seen final
    by_rows [] n stand opt signed =
        let same = only_nothing seen.opt final.opt opt in
        let also = signed ∙ or_false seen.signed in
        record { place = sym stand; final_is = λ i. record { opt = same i; signed = also i } }
    by_rows (row ∷ rows) n stand opt signed = absurd (omega arith)
