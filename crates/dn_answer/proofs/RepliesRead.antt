-- What is replied to a datagram is read by the grammar as what there is to say.
use Rattle.std.proofs.Common.{ℕ, Bool, true, false, if◌then◌else◌, List, refl}
use Rattle.dn_name.specs.Name.{IsName}
use Rattle.dn_message.specs.declared.query.Query.{Query}
use Rattle.dn_message.specs.declared.rcode.Rcode.TheVariants.{NotImp, Refused}
use Rattle.dn_message.specs.Pieces.{bytes_of}
use Rattle.dn_message.specs.Short.{short_bytes}
use Rattle.dn_message.proofs.CallerLemmas.{short_read}
use Rattle.dn_answer.specs.declared.datagrams.Received.{Received}
use Rattle.dn_answer.specs.declared.datagrams.Received.TheVariants.{Silence, Code, Answer, Update}
use Rattle.dn_answer.specs.declared.reply.AnswerValue.{AnswerValue}
use Rattle.dn_answer.specs.Datagram.{IsRepliable, ReadAs, ReadAsAnswer, is_refusal, reply_bytes}
use Rattle.dn_answer.specs.Sendable.{AnswersAreSendable, IsSendable, sent}
use Rattle.dn_answer.specs.View.{IsServable, ZoneSeen, seen_reply}
use Rattle.dn_answer.proofs.SentLemmas.{sent_read}

by_code : (request : List ℕ) (query : Query) (value : AnswerValue) (refuses : Bool) → IsName query.name → IsSendable query.name value
    → ReadAsAnswer refuses request query value (if refuses then short_bytes request Refused else bytes_of (sent query value))
by_code request query value true named is = short_read (short_bytes request Refused) request Refused refl
by_code request query value false named is = sent_read (bytes_of (sent query value)) query value refl named is

pub servable_sends : AnswersAreSendable → (zone : ZoneSeen) (query : Query) → IsServable zone → IsName query.name
    → IsSendable query.name (seen_reply zone query.name query.qtype)
servable_sends sendable zone query servable named =
    sendable zone.table zone.apex zone.host query.name query.qtype servable.host named servable.data_valid servable.named

pub read_as : AnswersAreSendable → (request : List ℕ) (received : Received) → IsRepliable request received → ReadAs request received (reply_bytes request received)
read_as sendable request Silence can = refl
read_as sendable request (Code code) can = short_read (short_bytes request code) request code refl
read_as sendable request (Answer zone query) can =
    let value : AnswerValue = seen_reply zone query.name query.qtype in
    by_code request query value (is_refusal value.rcode) can.2 (servable_sends sendable zone query can.1 can.2)
read_as sendable request Update can = short_read (short_bytes request NotImp) request NotImp refl
