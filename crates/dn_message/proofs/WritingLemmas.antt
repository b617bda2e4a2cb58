-- What was written is a query.
use Rattle.std.proofs.Common.{◌≡◌, ℕ, ◌+◌, ◌*◌, ◌/◌, ◌%◌, ◌<◌, nat_lt, Bool, true, false, if◌then◌else◌, List, [], ◌∷◌, ◌++◌, length, take, drop, Option, None, Some, IfSome, refl, sym, ap, subst, ◌∙◌, arith, append_assoc, length-append, drop_at, drop-drop}
use Rattle.std.proofs.lemmas.List.{append-nil}
use Rattle.std.proofs.lemmas.Bool.Decides.{nat_tests}
use Rattle.std.specs.List.{filter, list_any}
use Rattle.dn_name.specs.Name.{IsName, Labels, wire_len, wire_of}
use Rattle.dn_name.proofs.CallerLemmas.{plain_spelled}
use Rattle.dn_message.specs.declared.query.Opt.{Opt}
use Rattle.dn_message.specs.declared.query.Query.{Query}
use Rattle.dn_message.specs.declared.kind.Kind.TheVariants as kinds
use Rattle.dn_message.specs.Fields.{four_bytes, two_bytes}
use Rattle.dn_message.specs.Kind.{kind_of}
use Rattle.dn_message.specs.Header.{IsHeader, is_recursion_desired}
use Rattle.dn_message.specs.Query.{HasOpt, IsQuery, is_opt, is_signature, opt_of}
use Rattle.dn_message.specs.Record.{AreRrs, IsRr, any_data, fields}
use Rattle.dn_message.specs.Writing.{Appends, additional_bytes, additional_of, header_bytes, kind_bytes, opt_bytes, opt_row, query_bytes}
use Rattle.dn_message.proofs.FieldLemmas.{any_laid, six_stand, stands}

-- one piece behind another
pub appends_then : (at mid next : ℕ) (old between new piece more : List ℕ) → Appends at old piece mid between → Appends mid between more next new → Appends at old (piece ++ more) next new
appends_then at mid next old between new piece more first second =
    record {
      next_is = omega (arith, first.next_is, second.next_is, length-append piece more);
      within = second.within;
      front = second.front ∙ ap (λ xs. xs ++ more) first.front ∙ append_assoc (take at old) piece more;
      rest = second.rest ∙ ap (λ k. drop k between) second.next_is ∙ sym (drop-drop (length more) mid between)
          ∙ ap (drop (length more)) first.rest ∙ drop-drop (length more) mid old ∙ sym (ap (λ k. drop k old) second.next_is);
    }

pub wire_size : (name : Labels) → length (wire_of name) ≡ wire_len name
wire_size [] = refl
wire_size (label ∷ name) = omega (arith, length-append label (wire_of name), wire_size name)

-- ---- the query that the bytes are

abbrev flags_of : Bool → ℕ
flags_of rd = 256 * (if rd then 1 else 0)

flag_is : (rd : Bool) → rd ≡ is_recursion_desired (flags_of rd)
flag_is true = refl
flag_is false = refl

-- the version is the second byte of the time to live, and the other three are zero
version_bytes : (version : ℕ) → version < 256 → four_bytes (65536 * version) ≡ 0 ∷ (version ∷ (0 ∷ (0 ∷ [])))
version_bytes version small =
    let a : 65536 * version / 65536 / 256 ≡ 0 = omega arith in
    let b : 65536 * version / 65536 % 256 ≡ version = omega arith in
    let c : 65536 * version % 65536 / 256 ≡ 0 = omega arith in
    let d : 65536 * version % 65536 % 256 ≡ 0 = omega arith in
    λ i. a i ∷ (b i ∷ (c i ∷ (d i ∷ [])))

version_is : (opt : Opt) → opt.version < 256 → opt ≡ opt_of (opt_row opt)
version_is opt small =
    let same : opt.version ≡ 65536 * opt.version / 65536 % 256 = omega arith in
    λ i. record { size = opt.size; version = same i }

module _ (id : ℕ) (name : Labels) (qtype qclass : ℕ) (is_name : IsName name) where
  abbrev rest_of : Option Opt → List ℕ
  rest_of opt = kind_bytes qtype qclass ++ additional_bytes opt

  abbrev message_of : Bool → Option Opt → List ℕ
  message_of rd opt = header_bytes id rd opt ++ (wire_of name ++ rest_of opt)

  abbrev behind : ℕ
  behind = 12 + wire_len name

  header_is : (rd : Bool) (opt : Option Opt) → IsHeader (message_of rd opt) id (flags_of rd) 1 0 0 (length (additional_of opt))
  header_is true None = six_stand id 256 1 0 0 0 (wire_of name ++ rest_of None)
  header_is true (Some opt) = six_stand id 256 1 0 0 1 (wire_of name ++ rest_of (Some opt))
  header_is false None = six_stand id 0 1 0 0 0 (wire_of name ++ rest_of None)
  header_is false (Some opt) = six_stand id 0 1 0 0 1 (wire_of name ++ rest_of (Some opt))

  behind_name : (rd : Bool) (opt : Option Opt) → drop behind (message_of rd opt) ≡ rest_of opt
  behind_name rd opt = sym (drop-drop (wire_len name) 12 (message_of rd opt)) ∙ drop_at (wire_of name) (rest_of opt) (wire_len name) (wire_size name)

  behind_kind : (rd : Bool) (opt : Option Opt) → drop (behind + 4) (message_of rd opt) ≡ additional_bytes opt
  behind_kind rd opt = sym (drop-drop 4 behind (message_of rd opt)) ∙ ap (drop 4) (behind_name rd opt)

  size_is : (rd : Bool) (opt : Option Opt) → length (message_of rd opt) ≡ behind + 4 + length (additional_bytes opt)
  size_is rd opt =
      let header_size : length (header_bytes id rd opt) ≡ 12 = refl in
      let kind_size : length (kind_bytes qtype qclass) ≡ 4 = refl in
      omega (
        arith,
        header_size,
        kind_size,
        length-append (header_bytes id rd opt) (wire_of name ++ rest_of opt),
        length-append (wire_of name) (rest_of opt),
        length-append (kind_bytes qtype qclass) (additional_bytes opt),
        wire_size name,
      )

  opt_stands : (rd : Bool) (opt : Opt) → opt.version < 256 → IsRr any_data (message_of rd (Some opt)) (behind + 4) (opt_row opt) (length (message_of rd (Some opt)))
  opt_stands rd opt small =
      let message = message_of rd (Some opt) in
      let size = size_is rd (Some opt) in
      let ends : behind + 4 + 1 + 10 ≡ length message = omega (arith, size) in
      record {
        behind = behind + 4 + 1;
        name_spelled = plain_spelled message (behind + 4) [] (drop 1 (opt_bytes opt)) (tt, omega arith) (behind_kind rd (Some opt));
        fields_stand = stands message (behind + 4 + 1) (behind + 4 + 1 + 10) (fields 41 opt.size (65536 * opt.version) 0) []
            (sym (drop-drop 1 (behind + 4) message) ∙ ap (drop 1) (behind_kind rd (Some opt))
            ∙ ap (λ xs. (two_bytes 41 ++ (two_bytes opt.size ++ (xs ++ two_bytes 0))) ++ []) (sym (version_bytes opt.version small))) refl;
        len = 0;
        data_laid = any_laid message (behind + 4 + 1 + 10) (length message) [] (record { bytes = ap (λ k. drop k message) ends; next_is = omega (arith, ends) });
        next_is = omega (arith, ends);
      }

  records_stand : (rd : Bool) (opt : Option Opt) → IfSome opt (λ opt. opt.version < 256) → AreRrs any_data (message_of rd opt) (behind + 4) (additional_of opt) (length (message_of rd opt))
  records_stand rd None small = omega (arith, size_is rd None)
  records_stand rd (Some opt) small = (length (message_of rd (Some opt)), opt_stands rd opt small, refl)

  opt_found : (opt : Option Opt) → IfSome opt (λ opt. opt.version < 256) → HasOpt (filter is_opt (additional_of opt)) opt
  opt_found None small = refl
  opt_found (Some opt) small = (opt_row opt, refl, version_is opt small)

  unsigned : (opt : Option Opt) → false ≡ list_any is_signature (additional_of opt)
  unsigned None = refl
  unsigned (Some opt) = refl

  pub is_query : (rd signed : Bool) (opt : Option Opt) → signed ≡ false → IfSome opt (λ opt. opt.version < 256)
      → IsQuery (message_of rd opt) (record { id = id; rd = rd; name = name; qtype = qtype; qclass = qclass; opt = opt; signed = signed })
  is_query rd signed opt none small = record {
    flags = flags_of rd;
    additional = additional_of opt;
    header = header_is rd opt;
    rd_is = flag_is rd;
    behind = behind;
    name_spelled = plain_spelled (message_of rd opt) 12 name (rest_of opt) is_name refl;
    type_and_class = stands (message_of rd opt) behind (behind + 4) (kind_bytes qtype qclass) (additional_bytes opt) (behind_name rd opt) refl;
    records = records_stand rd opt small;
    opt_is = opt_found opt small;
    signed_is = none ∙ unsigned opt;
  }

-- ---- the query that was written

regrouped : (a b c d : List ℕ) → ((a ++ b) ++ c) ++ d ≡ a ++ (b ++ (c ++ d))
regrouped a b c d = append_assoc (a ++ b) c d ∙ append_assoc a b (c ++ d)

pub query_size : (query : Query) (opt : Option Opt) → query.opt ≡ opt → length (query_bytes query) ≡ 12 + wire_len query.name + 4 + length (additional_bytes opt)
unfolding query_bytes
query_size query opt same =
    let header = header_bytes query.id query.rd query.opt in
    let kind = kind_bytes query.qtype query.qclass in
    let header_size : length header ≡ 12 = refl in
    let kind_size : length kind ≡ 4 = refl in
    let last : length (additional_bytes query.opt) ≡ length (additional_bytes opt) = ap (λ o. length (additional_bytes o)) same in
    omega (
      arith,
      header_size,
      kind_size,
      last,
      length-append ((header ++ wire_of query.name) ++ kind) (additional_bytes query.opt),
      length-append (header ++ wire_of query.name) kind,
      length-append header (wire_of query.name),
      wire_size query.name,
    )

pub written_is : (query : Query) (message : List ℕ) → message ≡ query_bytes query → IsName query.name → query.signed ≡ false → IfSome query.opt (λ opt. opt.version < 256) → IsQuery message query
unfolding query_bytes
written_is query message same is none small =
    subst (λ xs. IsQuery xs query)
    (sym (same ∙ regrouped (header_bytes query.id query.rd query.opt) (wire_of query.name) (kind_bytes query.qtype query.qclass) (additional_bytes query.opt)))
    (is_query query.id query.name query.qtype query.qclass is query.rd query.signed query.opt none small)

module _ (query : Query) (start first second third : List ℕ) (a b c : ℕ) (header kind : List ℕ) (header_same : header ≡ header_bytes query.id query.rd query.opt)
    (kind_same : kind ≡ kind_bytes query.qtype query.qclass) (one : Appends 0 start header a first) (two : Appends a first (wire_of query.name) b second)
    (three : Appends b second kind c third) where
  front_written : Appends 0 start ((header_bytes query.id query.rd query.opt ++ wire_of query.name) ++ kind_bytes query.qtype query.qclass) c third
  front_written =
      subst (λ xs. Appends 0 start ((xs ++ wire_of query.name) ++ kind_bytes query.qtype query.qclass) c third) header_same
      (subst (λ xs. Appends 0 start ((header ++ wire_of query.name) ++ xs) c third) kind_same
      (appends_then 0 b c start second third (header ++ wire_of query.name) kind (appends_then 0 a b start first second header (wire_of query.name) one two) three))

  pub without_opt : query.opt ≡ None → Appends 0 start (query_bytes query) c third
  unfolding query_bytes
  without_opt none =
      subst (λ o. Appends 0 start (((header_bytes query.id query.rd query.opt ++ wire_of query.name) ++ kind_bytes query.qtype query.qclass) ++ additional_bytes o) c third) (sym none)
      (subst (λ xs. Appends 0 start xs c third) (sym (append-nil ((header_bytes query.id query.rd query.opt ++ wire_of query.name) ++ kind_bytes query.qtype query.qclass))) front_written)

  pub with_opt : (opt : Opt) (last : List ℕ) (d : ℕ) (piece : List ℕ) → query.opt ≡ Some opt → piece ≡ opt_bytes opt → Appends c third piece d last → Appends 0 start (query_bytes query) d last
  unfolding query_bytes
  with_opt opt last d piece some piece_same four =
      subst (λ o. Appends 0 start (((header_bytes query.id query.rd query.opt ++ wire_of query.name) ++ kind_bytes query.qtype query.qclass) ++ additional_bytes o) d last) (sym some)
      (appends_then 0 c d start third last ((header_bytes query.id query.rd query.opt ++ wire_of query.name) ++ kind_bytes query.qtype query.qclass) (opt_bytes opt) front_written
      (subst (λ xs. Appends c third xs d last) piece_same four))

-- ---- its kind

not_short : (a b c d e f g h i j k l : ℕ) (rest : List ℕ) → nat_lt (length (a ∷ (b ∷ (c ∷ (d ∷ (e ∷ (f ∷ (g ∷ (h ∷ (i ∷ (j ∷ (k ∷ (l ∷ rest))))))))))))) 12 ≡ false
not_short a b c d e f g h i j k l rest = grind (arith, nat_tests)

-- bytes that begin with the header of a query are one by their kind
header_kind : (id : ℕ) (rd : Bool) (opt : Option Opt) (rest : List ℕ) → kind_of (header_bytes id rd opt ++ rest) ≡ kinds.Query
header_kind id true opt rest = rw (not_short (id / 256) (id % 256) 1 0 0 1 0 0 0 0 0 (length (additional_of opt)) rest) refl
header_kind id false opt rest = rw (not_short (id / 256) (id % 256) 0 0 0 1 0 0 0 0 0 (length (additional_of opt)) rest) refl

pub written_kind : (query : Query) (written : List ℕ) → written ≡ query_bytes query → kind_of written ≡ kinds.Query
unfolding query_bytes
written_kind query written e =
    ap kind_of (e
    ∙ append_assoc (header_bytes query.id query.rd query.opt ++ wire_of query.name) (kind_bytes query.qtype query.qclass) (additional_bytes query.opt)
    ∙ append_assoc (header_bytes query.id query.rd query.opt) (wire_of query.name) (kind_bytes query.qtype query.qclass ++ additional_bytes query.opt))
    ∙ header_kind query.id query.rd query.opt (wire_of query.name ++ (kind_bytes query.qtype query.qclass ++ additional_bytes query.opt))
