-- Each message is one query or none.
use Rattle.std.proofs.Common.{◌≡◌, ℕ, ◌+◌, List, [], ◌∷◌, ◌++◌, length, drop, Option, None, Some, refl, sym, ap, subst, ◌∙◌, arith}
use Rattle.std.specs.List.{filter, list_any}
use Rattle.std.proofs.Math.Decide.{ℕ_discrete}
use Rattle.dn_name.specs.Exact.{Decided}
use Rattle.dn_name.specs.Name.{Labels}
use Rattle.dn_name.proofs.CallerLemmas.{by_part, no_value, one_value, spelled_or_not}
use Rattle.dn_rdata.specs.Laid.{Stands}
use Rattle.dn_message.specs.declared.query.Opt.{Opt}
use Rattle.dn_message.specs.declared.query.Query.{Query}
use Rattle.dn_message.specs.declared.rr.Rr.{Rr}
use Rattle.dn_message.specs.Decisions.Fronts.{Fronts, both, both_bytes, two}
use Rattle.dn_message.specs.Decisions.Records.{AreRows, rows_or_not}
use Rattle.dn_message.specs.Decisions.Standing.{six_stand, stands}
use Rattle.dn_message.specs.Fields.{two_bytes}
use Rattle.dn_message.specs.Header.{IsHeader, is_recursion_desired}
use Rattle.dn_message.specs.Query.{HasOpt, IsQuery, is_opt, is_signature, opt_of}
use Rattle.dn_message.specs.Record.{AreRrs, any_data}

-- ---- the OPT record

opt_or_not : (opts : List Rr) → Decided (HasOpt opts)
opt_or_not [] = one_value None refl only
  where
    only : (other : Option Opt) → HasOpt [] other → other ≡ None
    only None is = refl
    only (Some opt) is = absurd (cc is.1)
opt_or_not (row ∷ []) = one_value (Some (opt_of row)) (row, refl, refl) only
  where
    only : (other : Option Opt) → HasOpt (row ∷ []) other → other ≡ Some (opt_of row)
    only None is = absurd (cc)
    only (Some opt) is = let same : is.0 ≡ row = cc is.1 in ap Some (is.2 ∙ ap opt_of same)
opt_or_not (row ∷ (second ∷ opts)) = no_value never
  where
    never : (other : Option Opt) → HasOpt (row ∷ (second ∷ opts)) other → ⊥
    never None is = cc
    never (Some opt) is = omega (arith, ap length is.1)

-- ---- the header

-- six numbers of two bytes: the message's number, its flags and the four counts
abbrev Six : Type 0
Six = ℕ × (ℕ × (ℕ × (ℕ × (ℕ × ℕ))))

abbrev six_bytes : Six → List ℕ
six_bytes six = two_bytes six.0 ++ (two_bytes six.1.0 ++ (two_bytes six.1.1.0 ++ (two_bytes six.1.1.1.0 ++ (two_bytes six.1.1.1.1.0 ++ two_bytes six.1.1.1.1.1))))

abbrev pair_bytes : ℕ × ℕ → List ℕ
pair_bytes = both_bytes two_bytes two_bytes

pair : Fronts pair_bytes
pair = both two_bytes two_bytes two two

six_or_not : Fronts six_bytes
six_or_not =
    both two_bytes (both_bytes two_bytes (both_bytes two_bytes (both_bytes two_bytes pair_bytes))) two
    (both two_bytes (both_bytes two_bytes (both_bytes two_bytes pair_bytes)) two
    (both two_bytes (both_bytes two_bytes pair_bytes) two
    (both two_bytes pair_bytes two pair)))

header_stands : (message : List ℕ) (six : Six) (rest : List ℕ) → message ≡ six_bytes six ++ rest → IsHeader message six.0 six.1.0 six.1.1.0 six.1.1.1.0 six.1.1.1.1.0 six.1.1.1.1.1
header_stands message six rest e =
    subst (λ m. IsHeader m six.0 six.1.0 six.1.1.0 six.1.1.1.0 six.1.1.1.1.0 six.1.1.1.1.1) (sym e)
    (six_stand six.0 six.1.0 six.1.1.0 six.1.1.1.0 six.1.1.1.1.0 six.1.1.1.1.1 rest)

six_in : (message : List ℕ) (six : Six) → IsHeader message six.0 six.1.0 six.1.1.0 six.1.1.1.0 six.1.1.1.1.0 six.1.1.1.1.1 → message ≡ six_bytes six ++ drop 12 message
six_in message six is =
    is.number_stands.bytes
    ∙ ap (λ xs. two_bytes six.0 ++ xs) (is.flags_stand.bytes
    ∙ ap (λ xs. two_bytes six.1.0 ++ xs) (is.questions_stand.bytes
    ∙ ap (λ xs. two_bytes six.1.1.0 ++ xs) (is.answers_stand.bytes
    ∙ ap (λ xs. two_bytes six.1.1.1.0 ++ xs) (is.authorities_stand.bytes
    ∙ ap (λ xs. two_bytes six.1.1.1.1.0 ++ xs) is.additional_stand.bytes))))

-- one question, no answer, no authority record
abbrev IsQueryHead : List ℕ → ℕ × (ℕ × ℕ) → Type 0
IsQueryHead message head = IsHeader message head.0 head.1.0 1 0 0 head.1.1

abbrev six_of : ℕ × (ℕ × ℕ) → Six
six_of head = (head.0, (head.1.0, (1, (0, (0, head.1.1)))))

abbrev head_in : Six → ℕ × (ℕ × ℕ)
head_in six = (six.0, (six.1.0, six.1.1.1.1.1))

counts_or_not : (questions answers authorities : ℕ) → Dec ((questions ≡ 1) × (answers ≡ 0) × (authorities ≡ 0))
counts_or_not questions answers authorities =
    elim (ℕ_discrete questions 1) [
      | yes one ↦
          elim (ℕ_discrete (answers + authorities) 0) [
            | yes none ↦ yes (one, omega arith, omega arith)
            | no some ↦ no (λ is. some (omega (arith, is.1, is.2)))
          ]
      | no other ↦ no (λ is. other is.0)
    ]

header_or_not : (message : List ℕ) → Decided (IsQueryHead message)
header_or_not message =
    by_part (six_or_not message) (λ head is. ((six_of head, drop 12 message), six_in message (six_of head) is))
    (λ found e only.
    let six : Six = found.0 in
    elim (counts_or_not six.1.1.0 six.1.1.1.0 six.1.1.1.1.0) [
      | yes counts ↦
          let same : six ≡ six_of (head_in six) = (λ i. (six.0, (six.1.0, (counts.0 i, (counts.1 i, (counts.2 i, six.1.1.1.1.1)))))) in
          one_value (head_in six) (header_stands message (six_of (head_in six)) found.1 (e ∙ ap (λ (s : Six). six_bytes s ++ found.1) same))
          (λ head is. ap (λ (p : Six × List ℕ). head_in p.0) (only (six_of head, drop 12 message) (six_in message (six_of head) is)))
      | no other ↦
          no_value (λ head is.
          let same = only (six_of head, drop 12 message) (six_in message (six_of head) is) in
          other
          (subst (λ (p : Six × List ℕ). (p.0.1.1.0 ≡ 1) × (p.0.1.1.1.0 ≡ 0) × (p.0.1.1.1.1.0 ≡ 0)) same (refl, refl, refl)))
    ])

-- ---- the question

abbrev IsKind : List ℕ → ℕ → ℕ × ℕ → Type 0
IsKind message at kind = Stands message at (two_bytes kind.0 ++ two_bytes kind.1) (at + 4)

kind_or_not : (message : List ℕ) (at : ℕ) → Decided (IsKind message at)
kind_or_not message at =
    by_part (pair (drop at message)) (λ kind is. ((kind, drop (at + 4) message), is.bytes))
    (λ found e only.
    one_value found.0 (stands message at (at + 4) (pair_bytes found.0) found.1 e refl)
    (λ kind is. ap (λ (p : (ℕ × ℕ) × List ℕ). p.0) (only (kind, drop (at + 4) message) is.bytes)))

-- ---- the query

module _ (message : List ℕ) where
  -- the query of its parts
  abbrev query_from : ℕ × (ℕ × ℕ) → Labels × ℕ → ℕ × ℕ → List Rr → Option Opt → Query
  query_from head name kind rows opt = record {
    id = head.0;
    rd = is_recursion_desired head.1.0;
    name = name.0;
    qtype = kind.0;
    qclass = kind.1;
    opt = opt;
    signed = list_any is_signature rows;
  }

  pub query_or_not : Decided (IsQuery message)
  query_or_not =
      by_part (header_or_not message) (λ query is. ((query.id, (is.flags, length is.additional)), is.header))
      (λ head is_head only_head.
      by_part (spelled_or_not message 12) (λ query is. ((query.name, is.behind), is.name_spelled))
      (λ name spelled only_name.
      let place_in : (query : Query) (is : IsQuery message query) → is.behind ≡ name.1 =
      λ query is. ap (λ (p : Labels × ℕ). p.1) (only_name (query.name, is.behind) is.name_spelled) in
      let kind_in : (query : Query) → IsQuery message query → IsKind message name.1 (query.qtype, query.qclass) =
      λ query is. subst (λ at. IsKind message at (query.qtype, query.qclass)) (place_in query is) is.type_and_class in
      let rows_in : (query : Query) (is : IsQuery message query) → AreRows message head.1.1 (name.1 + 4) is.additional =
      λ query is. (
        ap (λ (p : ℕ × (ℕ × ℕ)). p.1.1) (only_head (query.id, (is.flags, length is.additional)) is.header),
        subst (λ at. AreRrs any_data message (at + 4) is.additional (length message)) (place_in query is) is.records,
      ) in
      by_part (kind_or_not message name.1) (λ query is. ((query.qtype, query.qclass), kind_in query is))
      (λ kind is_kind only_kind.
      by_part (rows_or_not message head.1.1 (name.1 + 4)) (λ query is. (is.additional, rows_in query is))
      (λ rows are only_rows.
      let opt_in : (query : Query) → IsQuery message query → HasOpt (filter is_opt rows) query.opt =
      λ query is. subst (λ rs. HasOpt (filter is_opt rs) query.opt) (only_rows is.additional (rows_in query is)) is.opt_is in
      by_part (opt_or_not (filter is_opt rows)) (λ query is. (query.opt, opt_in query is))
      (λ opt has only_opt.
      one_value (query_from head name kind rows opt)
      (record {
        flags = head.1.0;
        additional = rows;
        header = subst (λ count. IsHeader message head.0 head.1.0 1 0 0 count) (sym are.0) is_head;
        rd_is = refl;
        behind = name.1;
        name_spelled = spelled;
        type_and_class = is_kind;
        records = are.1;
        opt_is = has;
        signed_is = refl;
      })
      (λ query is.
      let h = only_head (query.id, (is.flags, length is.additional)) is.header in
      let n = only_name (query.name, is.behind) is.name_spelled in
      let k = only_kind (query.qtype, query.qclass) (kind_in query is) in
      let o = only_opt query.opt (opt_in query is) in
      let rd = is.rd_is ∙ ap (λ (p : ℕ × (ℕ × ℕ)). is_recursion_desired p.1.0) h in
      let signed = is.signed_is ∙ ap (list_any is_signature) (only_rows is.additional (rows_in query is)) in
      λ i. record { id = (h i).0; rd = rd i; name = (n i).0; qtype = (k i).0; qclass = (k i).1; opt = o i; signed = signed i }))))))
