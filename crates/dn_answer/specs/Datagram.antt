-- What a datagram comes to where some zones are seen, and what is replied to it (RFC 1035 4.1, RFC 2136 2.2).
use Rattle.std.specs.Prelude.{◌≡◌, ℕ, ◌≤◌, Bool, true, false, not, ◌||◌, nat_eq, nat_lt, if◌then◌else◌, List, [], ◌∷◌, length, filter, Option, None, Some}
use Rattle.std.specs.Option.{option_map_or}
use Rattle.dn_name.specs.Name.{IsName, Labels, is_under}
use Rattle.dn_rdata.specs.Types.{A, AXFR, IN}
use Rattle.dn_message.specs.declared.kind.Kind.{Kind}
use Rattle.dn_message.specs.declared.kind.Kind.TheVariants as kinds
use Rattle.dn_message.specs.declared.query.Query.{Query}
use Rattle.dn_message.specs.declared.rcode.Rcode.{Rcode}
use Rattle.dn_message.specs.declared.rcode.Rcode.TheVariants.{NoError, FormErr, ServFail, NxDomain, NotImp, Refused, YxDomain, YxRrset, NxRrset, NotAuth, NotZone}
use Rattle.dn_message.specs.Kind.{kind_of}
use Rattle.dn_message.specs.Pieces.{bytes_of}
use Rattle.dn_message.specs.QueryOf.{query_of}
use Rattle.dn_message.specs.Reply.{IsReply}
use Rattle.dn_message.specs.Short.{short_bytes, short_of}
use Rattle.dn_answer.specs.declared.datagrams.Received.{Received}
use Rattle.dn_answer.specs.declared.datagrams.Received.TheVariants.{Silence, Code, Answer, Update}
use Rattle.dn_answer.specs.declared.reply.AnswerValue.{AnswerValue}
use Rattle.dn_answer.specs.Answer.{refused}
use Rattle.dn_answer.specs.Sendable.{sent}
use Rattle.dn_answer.specs.View.{IsServable, ZoneSeen, seen_reply}

-- ---- which zone a query reaches

-- the name is at or below the zone's
abbrev pub is_over : Labels → ZoneSeen → Bool
is_over name zone = is_under name zone.apex

abbrev pub nearer : ZoneSeen → Option ZoneSeen → Option ZoneSeen
nearer zone None = Some zone
nearer zone (Some other) = if nat_lt (length zone.apex) (length other.apex) then Some other else Some zone

-- of the zones the one with the longest name, by number of labels, the first of these
unfoldable pub nearest : List ZoneSeen → Option ZoneSeen
nearest [] = None
nearest (zone ∷ zones) = nearer zone (nearest zones)

-- of the zones that are over a name the one with the longest name
abbrev pub zone_over : List ZoneSeen → Labels → Option ZoneSeen
zone_over zones name = nearest (filter (is_over name) zones)

-- the reply to a question for this name and type; REFUSED where no zone is over the name
abbrev pub reply_among : List ZoneSeen → Labels → ℕ → AnswerValue
reply_among zones name qtype = option_map_or (λ zone. seen_reply zone name qtype) (zone_over zones name) refused

-- ---- what a datagram comes to

-- A query that no zone answers: one that is signed, as no key is known; one of another class than IN; one for a transfer,
-- which goes over TCP (RFC 5936 4.2).
abbrev pub is_refused : Query → Bool
is_refused query = query.signed || not (nat_eq query.qclass IN) || nat_eq query.qtype AXFR

-- REFUSED where the query reaches no zone
abbrev pub query_received : List ZoneSeen → Query → Received
query_received zones query =
    if is_refused query then Code Refused else option_map_or (λ zone. Answer zone query) (zone_over zones query.name) (Code Refused)

-- Silence to what has no whole header or is a reply; FORMERR where a query's bytes are none; NOTIMP to each opcode but those of
-- a query and an update.
abbrev pub received_as : Kind → List ZoneSeen → List ℕ → Received
received_as kinds.Silent zones request = Silence
received_as kinds.Query zones request = option_map_or (query_received zones) (query_of request) (Code FormErr)
received_as kinds.Update zones request = Update
received_as (kinds.Other opcode) zones request = Code NotImp

-- what the bytes of a datagram come to where these zones are seen
unfoldable pub received : List ZoneSeen → List ℕ → Received
received zones request = received_as (kind_of request) zones request

-- ---- what is replied

abbrev pub is_refusal : Rcode → Bool
is_refusal NoError = false
is_refusal FormErr = false
is_refusal ServFail = false
is_refusal NxDomain = false
is_refusal NotImp = false
is_refusal Refused = true
is_refusal YxDomain = false
is_refusal YxRrset = false
is_refusal NxRrset = false
is_refusal NotAuth = false
is_refusal NotZone = false

-- An answer in bytes, with the query's number, RD and question; a refusal is a header alone.
abbrev pub answer_bytes : List ℕ → Query → AnswerValue → List ℕ
answer_bytes request query value = if is_refusal value.rcode then short_bytes request Refused else bytes_of (sent query value)

-- a zone's reply to these bytes, which are this query
abbrev pub zone_bytes : List ℕ → ZoneSeen → Query → List ℕ
zone_bytes request zone query = answer_bytes request query (seen_reply zone query.name query.qtype)

-- the reply; no byte is no reply
abbrev pub reply_bytes : List ℕ → Received → List ℕ
reply_bytes request Silence = []
reply_bytes request (Code code) = short_bytes request code
reply_bytes request (Answer zone query) = zone_bytes request zone query
reply_bytes request Update = short_bytes request NotImp

-- an answer, or a refusal, as it is read
abbrev pub ReadAsAnswer : Bool → List ℕ → Query → AnswerValue → List ℕ → Type 0
ReadAsAnswer true request query value reply = IsReply reply (short_of request Refused)
ReadAsAnswer false request query value reply = IsReply reply (sent query value)

abbrev pub ReadAsZones : List ℕ → ZoneSeen → Query → List ℕ → Type 0
ReadAsZones request zone query reply =
    let value = seen_reply zone query.name query.qtype in ReadAsAnswer (is_refusal value.rcode) request query value reply

-- The bytes of a reply are read by the grammar as what there is to say: where a zone answers as its reply, with the query's
-- number, RD and question; else as a header with the request's number, opcode and RD, and the code.
abbrev pub ReadAs : List ℕ → Received → List ℕ → Type 0
ReadAs request Silence reply = reply ≡ []
ReadAs request (Code code) reply = IsReply reply (short_of request code)
ReadAs request (Answer zone query) reply = ReadAsZones request zone query reply
ReadAs request Update reply = IsReply reply (short_of request NotImp)

-- what isn't done yet: an update, and a zone's answer to a query for another type than A
abbrev pub wants_more : Received → Bool
wants_more Silence = false
wants_more (Code code) = false
wants_more (Answer zone query) = not (nat_eq query.qtype A)
wants_more Update = true

-- ---- what can be replied to

-- The request has a whole header. A query that is answered has a name and class IN, and its zone can be served.
abbrev pub IsRepliable : List ℕ → Received → Type 0
IsRepliable request Silence = Unit {0}
IsRepliable request (Code code) = 12 ≤ length request
IsRepliable request (Answer zone query) = (12 ≤ length request) × IsServable zone × IsName query.name × (query.qclass ≡ IN)
IsRepliable request Update = 12 ≤ length request
