-- The reply of a zone to a question (RFC 1034 4.3.2).
use Rattle.std.specs.Prelude.{ℕ, ◌+◌, ◌%◌, ◌^◌, ◌-◌, false, not, ◌&&◌, nat_eq, nat_lt, if◌then◌else◌, List, [], ◌∷◌, ◌++◌, length, map, find, take, drop, Option, None, Some}
use Rattle.std.specs.Int.{w32, to_be_bytes}
use Rattle.dn_name.specs.Name.{Labels, is_same, wire_of}
use Rattle.dn_name.specs.Wire.{plain_name}
use Rattle.dn_rdata.specs.Types.{AXFR, IN, SOA}
use Rattle.dn_message.specs.declared.rcode.Rcode.TheVariants.{Refused}
use Rattle.dn_message.specs.declared.rr.Rr.{Rr}
use Rattle.dn_store.specs.Table.{TableState}
use Rattle.dn_answer.specs.declared.reply.AnswerValue.{AnswerValue}
use Rattle.dn_store.specs.declared.owned.Owned.{Owned}
use Rattle.dn_answer.specs.declared.walk.Walk.{Walk}
use Rattle.dn_answer.specs.Glue.{as_spelled, glue}
use Rattle.dn_store.specs.Rows.{has_some, of_name, of_type, rows_of}
use Rattle.dn_answer.specs.Size.{fitted}
use Rattle.dn_answer.specs.Walk.{most_links, walk}

-- the serial that a zone's SOA is answered with: one above its change count, in 32 bits
abbrev pub serial_of : ℕ → ℕ
serial_of count = (count + 1) % 2 ^ 32

-- the owner of a row: as the question or an alias spelled the name, and else in lower case
unfoldable pub owner_of : List Labels → Labels → Labels
owner_of spelled name = as_spelled (find (λ met. is_same met name) spelled) name

abbrev pub with_primary : Labels → ℕ → List ℕ → Option (Labels × List ℕ) → List ℕ
with_primary host serial rdata None = rdata
with_primary host serial rdata (Some found) =
    if nat_lt (length found.1) 20 then rdata
    else wire_of host ++ take (length found.1 - 20) found.1 ++ to_be_bytes w32 serial ++ drop (length found.1 - 16) found.1

-- an SOA's data with this primary server and this serial; data that is too short for an SOA's five numbers stays
unfoldable pub soa_data : Labels → ℕ → List ℕ → List ℕ
soa_data host serial rdata = with_primary host serial rdata (plain_name rdata)

-- the data of a row as it is answered: the apex's SOA names the replica that answers
abbrev pub answered_data : Labels → Labels → ℕ → Owned → List ℕ
answered_data apex host serial one =
    if nat_eq one.row.rtype SOA && is_same one.name apex then soa_data host serial one.row.rdata else one.row.rdata

-- a row in a reply, of class IN
unfoldable pub rr_of : List Labels → Labels → Labels → ℕ → Owned → Rr
rr_of spelled apex host serial one =
    record {
      name = owner_of spelled one.name;
      rtype = one.row.rtype;
      rclass = IN;
      ttl = one.row.ttl;
      rdata = answered_data apex host serial one;
    }

abbrev pub refused : AnswerValue
refused = record { rcode = Refused; aa = false; tc = false; answer = []; authority = []; additional = [] }

unfoldable pub reply_of_walk : List Owned → Labels → Labels → ℕ → Walk → AnswerValue
reply_of_walk rows apex host serial walked =
    record {
      rcode = walked.rcode;
      aa = not (walked.refers && not (has_some walked.answer));
      tc = false;
      answer = map (rr_of walked.spelled apex host serial) walked.answer;
      authority = map (rr_of walked.spelled apex host serial) walked.authority;
      additional = glue walked.spelled rows apex (walked.answer ++ walked.authority) (walked.answer ++ walked.authority);
    }

-- The reply of a zone with these rows to a question (class IN): REFUSED where it has no SOA at its apex, or for a
-- transfer. `serial` is the serial that its SOA is answered with, `host` the replica's own name.
unfoldable pub reply_of_rows : List Owned → Labels → ℕ → Labels → Labels → ℕ → AnswerValue
reply_of_rows rows apex serial host name qtype =
    if has_some (of_type SOA (of_name apex rows)) && not (nat_eq qtype AXFR)
    then fitted name (reply_of_walk rows apex host serial (walk most_links rows apex qtype (name ∷ []) name))
    else refused

-- The reply of a zone to a question: of the rows of its table, with the serial of its change count.
unfoldable pub answer_of : TableState → Labels → Labels → Labels → ℕ → AnswerValue
answer_of table apex host name qtype = reply_of_rows (rows_of table.0) apex (serial_of table.1) host name qtype
