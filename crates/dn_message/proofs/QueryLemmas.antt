-- A query is spelled once.
use Rattle.std.proofs.Common.{◌≡◌, ℕ, ◌+◌, Bool, false, List, length, None, sym, ap, subst, ◌∙◌}
use Rattle.dn_name.specs.Name.{Labels}
use Rattle.dn_name.specs.Spelled.{Spelled}
use Rattle.dn_message.specs.declared.additional.Seen.{Seen}
use Rattle.dn_message.specs.declared.header.QueryHeader.{QueryHeader}
use Rattle.dn_message.specs.declared.query.Query.{Query}
use Rattle.dn_message.specs.Header.{IsHeader, is_recursion_desired}
use Rattle.dn_message.specs.Query.{IsQuery}
use Rattle.dn_message.specs.Reading.{Completes, IsQueryHeader, IsTypeAndClass}
use Rattle.dn_message.specs.Record.{AreRrs, any_data}

-- nothing was seen yet
abbrev pub unseen : Seen
unseen = record { opt = None; signed = false }

module _ (message : List ℕ) (header : QueryHeader) (is_header : IsQueryHeader message header)
    (only_header : (other : QueryHeader) → IsQueryHeader message other → other ≡ header) where
  header_of : (query : Query) (is : IsQuery message query) → record { id = query.id; flags = is.flags; additional = length is.additional } ≡ header
  header_of query is = only_header _ is.header

  module _ (name : Labels) (behind : ℕ) (is_name : Spelled message 12 name behind)
      (only_name : (found : Labels × ℕ) → Spelled message 12 found.0 found.1 → found ≡ (name, behind)) where
    place_of : (query : Query) (is : IsQuery message query) → is.behind ≡ behind
    place_of query is = ap (λ (p : Labels × ℕ). p.1) (only_name (query.name, is.behind) is.name_spelled)

    kind_of : (query : Query) → IsQuery message query → IsTypeAndClass message behind (query.qtype, query.qclass)
    kind_of query is = subst (λ at. IsTypeAndClass message at (query.qtype, query.qclass)) (place_of query is) is.type_and_class

    pub no_query_kind : ((other : ℕ × ℕ) → IsTypeAndClass message behind other → ⊥) → (query : Query) → IsQuery message query → ⊥
    no_query_kind none query is = none (query.qtype, query.qclass) (kind_of query is)

    seen_of : (query : Query) → IsQuery message query → Completes message header.additional (behind + 4) unseen (record { opt = query.opt; signed = query.signed })
    seen_of query is = record {
      rows = is.additional;
      count_is = ap (λ (h : QueryHeader). h.additional) (header_of query is);
      stand = subst (λ at. AreRrs any_data message (at + 4) is.additional (length message)) (place_of query is) is.records;
      opt_is = is.opt_is;
      signed_is = is.signed_is;
    }

    pub no_query_seen : ((other : Seen) → Completes message header.additional (behind + 4) unseen other → ⊥) → (query : Query) → IsQuery message query → ⊥
    no_query_seen none query is = none (record { opt = query.opt; signed = query.signed }) (seen_of query is)

    pub query_found : (rd : Bool) → rd ≡ is_recursion_desired header.flags
        → (kind : ℕ × ℕ) → IsTypeAndClass message behind kind → ((other : ℕ × ℕ) → IsTypeAndClass message behind other → other ≡ kind)
        → (seen : Seen) → Completes message header.additional (behind + 4) unseen seen
        → ((other : Seen) → Completes message header.additional (behind + 4) unseen other → other ≡ seen)
        → IsQuery message (record { id = header.id; rd = rd; name = name; qtype = kind.0; qclass = kind.1; opt = seen.opt; signed = seen.signed })
        × ((other : Query) → IsQuery message other → other ≡ record { id = header.id; rd = rd; name = name; qtype = kind.0; qclass = kind.1; opt = seen.opt; signed = seen.signed })
    query_found rd rd_is kind is_kind only_kind seen completes only_seen = (
      record {
        flags = header.flags;
        additional = completes.rows;
        header = subst (λ count. IsHeader message header.id header.flags 1 0 0 count) (sym completes.count_is) is_header;
        rd_is = rd_is;
        behind = behind;
        name_spelled = is_name;
        type_and_class = is_kind;
        records = completes.stand;
        opt_is = completes.opt_is;
        signed_is = completes.signed_is;
      },
      λ other is.
          let h = header_of other is in
          let r = is.rd_is ∙ ap (λ (h : QueryHeader). is_recursion_desired h.flags) h ∙ sym rd_is in
          let n = only_name (other.name, is.behind) is.name_spelled in
          let k = only_kind (other.qtype, other.qclass) (kind_of other is) in
          let s = only_seen (record { opt = other.opt; signed = other.signed }) (seen_of other is) in
          λ i. record { id = (h i).id; rd = r i; name = (n i).0; qtype = (k i).0; qclass = (k i).1; opt = (s i).opt; signed = (s i).signed },
    )
