-- What a client reads of the reply to its question is what the zones that are seen reply to it.
use Rattle.std.proofs.Common.{◌≡◌, ℕ, Bool, true, false, if◌then◌else◌, List, Option, None, Some, refl, sym, ap, subst, ◌∙◌, arith}
use Rattle.std.proofs.lemmas.Bool.Decides.{nat_tests}
use Rattle.std.specs.Option.{option_map_or}
use Rattle.std.specs.Prelude.{nat_eq}
use Rattle.dn_name.specs.Name.{Labels}
use Rattle.dn_rdata.specs.Types.{AXFR, IN}
use Rattle.dn_message.specs.declared.kind.Kind.TheVariants as kinds
use Rattle.dn_message.specs.declared.query.Query.{Query}
use Rattle.dn_message.specs.declared.rcode.Rcode.{Rcode}
use Rattle.dn_message.specs.declared.rcode.Rcode.TheVariants.{NoError, FormErr, ServFail, NxDomain, NotImp, Refused, YxDomain, YxRrset, NxRrset, NotAuth, NotZone}
use Rattle.dn_message.specs.declared.reply.Reply.{Reply}
use Rattle.dn_message.specs.Header.{number_of_rcode, rcode_of_number}
use Rattle.dn_message.specs.Kind.{kind_of}
use Rattle.dn_message.specs.Query.{IsQuery}
use Rattle.dn_message.specs.Reply.{IsReply}
use Rattle.dn_message.specs.Short.{short_of}
use Rattle.dn_message.proofs.CallerLemmas.{query_is}
use Rattle.dn_answer.specs.declared.datagrams.Received.{Received}
use Rattle.dn_answer.specs.declared.datagrams.Received.TheVariants.{Answer, Code}
use Rattle.dn_answer.specs.declared.reply.AnswerValue.{AnswerValue}
use Rattle.dn_answer.specs.Answer.{refused}
use Rattle.dn_answer.specs.Datagram.{ReadAs, ReadAsAnswer, ReadAsZones, is_refusal, is_refused, query_received, received, received_as, reply_among, zone_over}
use Rattle.dn_answer.specs.Sendable.{sent}
use Rattle.dn_answer.specs.Told.{value_of}
use Rattle.dn_answer.specs.View.{ZoneSeen, seen_reply}
use Rattle.dn_answer.proofs.DatagramLemmas.{refuses}
use Rattle.dn_answer.proofs.RefusalLemmas.{answer_refuses, transfer_refused}

-- the bytes are read as a reply that says this
pub record Says (reply : List ℕ) (value : AnswerValue) : Type 0 where
  pub read : Reply
  pub is : IsReply reply read
  pub value_is : value_of read ≡ Some value

-- a code has its number
code_back : (rcode : Rcode) → rcode_of_number (number_of_rcode rcode) ≡ Some rcode
code_back NoError = refl
code_back FormErr = refl
code_back ServFail = refl
code_back NxDomain = refl
code_back NotImp = refl
code_back Refused = refl
code_back YxDomain = refl
code_back YxRrset = refl
code_back NxRrset = refl
code_back NotAuth = refl
code_back NotZone = refl

says_sent : (reply : List ℕ) (query : Query) (value : AnswerValue) → IsReply reply (sent query value) → Says reply value
says_sent reply query value is = record { read = sent query value; is = is; value_is = rw (code_back value.rcode) refl }

says_short : (reply request : List ℕ) → IsReply reply (short_of request Refused) → Says reply refused
says_short reply request is = record { read = short_of request Refused; is = is; value_is = refl }

-- ---- a zone

zone_says : (zone : ZoneSeen) (query : Query) (request reply : List ℕ) → ReadAsZones request zone query reply → Says reply (seen_reply zone query.name query.qtype)
zone_says zone query request reply read = by_code (is_refusal (seen_reply zone query.name query.qtype).rcode) refl read
  where
    by_code : (refusal : Bool) → is_refusal (seen_reply zone query.name query.qtype).rcode ≡ refusal
        → ReadAsAnswer refusal request query (seen_reply zone query.name query.qtype) reply → Says reply (seen_reply zone query.name query.qtype)
    by_code true test short =
        subst (Says reply) (sym (answer_refuses zone.table zone.apex zone.host query.name query.qtype (refuses (seen_reply zone query.name query.qtype).rcode test)))
        (says_short reply request short)
    by_code false test whole = says_sent reply query (seen_reply zone query.name query.qtype) whole

-- the reply of a zone, REFUSED where there is none
abbrev reply_of : Option ZoneSeen → Labels → ℕ → AnswerValue
reply_of found name qtype = option_map_or (λ zone. seen_reply zone name qtype) found refused

abbrev received_of : Option ZoneSeen → Query → Received
received_of found query = option_map_or (λ zone. Answer zone query) found (Code Refused)

found_says : (found : Option ZoneSeen) (query : Query) (request reply : List ℕ) → ReadAs request (received_of found query) reply → Says reply (reply_of found query.name query.qtype)
found_says None query request reply short = says_short reply request short
found_says (Some zone) query request reply read = zone_says zone query request reply read

-- no zone answers for a transfer
transfer_value : (found : Option ZoneSeen) (name : Labels) (qtype : ℕ) → nat_eq qtype AXFR ≡ true → reply_of found name qtype ≡ refused
transfer_value None name qtype is = refl
transfer_value (Some zone) name qtype is =
    let same : qtype ≡ 252 = grind (arith, nat_tests) in
    ap (λ kind. seen_reply zone name kind) same ∙ transfer_refused zone.table zone.apex zone.host name

-- ---- the zones that are seen

module _ (query : Query) (request reply : List ℕ) (found : Option ZoneSeen) where
  by_type : (transfer : Bool) → nat_eq query.qtype AXFR ≡ transfer → ReadAs request (if transfer then Code Refused else received_of found query) reply
      → Says reply (reply_of found query.name query.qtype)
  by_type true test short = subst (Says reply) (sym (transfer_value found query.name query.qtype test)) (says_short reply request short)
  by_type false test read = found_says found query request reply read

refused_is : (query : Query) → query.signed ≡ false → query.qclass ≡ IN → is_refused query ≡ nat_eq query.qtype AXFR
refused_is query unsigned class_in = rw (unsigned, class_in) refl

-- what the reply to a query of class IN says that isn't signed
pub told_to : (zones : List ZoneSeen) (request reply : List ℕ) (query : Query) → kind_of request ≡ kinds.Query → IsQuery request query → query.signed ≡ false → query.qclass ≡ IN
    → ReadAs request (received zones request) reply → Says reply (reply_among zones query.name query.qtype)
unfolding received
told_to zones request reply query kind is unsigned class_in read =
    let received_query : ReadAs request (received_as kinds.Query zones request) reply = subst (λ it. ReadAs request (received_as it zones request) reply) kind read in
    let this_query : ReadAs request (query_received zones query) reply =
    subst (λ found. ReadAs request (option_map_or (query_received zones) found (Code FormErr)) reply) (query_is request query is) received_query in
    by_type query request reply (zone_over zones query.name) (nat_eq query.qtype AXFR) refl
    (subst (λ (test : Bool). ReadAs request (if test then Code Refused else received_of (zone_over zones query.name) query) reply) (refused_is query unsigned class_in) this_query)
