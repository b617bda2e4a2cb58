-- What is sent of answers that are alike is read alike.
use Rattle.std.proofs.Common.{◌≡◌, ℕ, Bool, true, false, if◌then◌else◌, List, refl, ap, subst, ◌∙◌}
use Rattle.dn_name.specs.Name.{IsName}
use Rattle.dn_message.specs.declared.query.Query.{Query}
use Rattle.dn_message.specs.declared.reply.Reply.{Reply}
use Rattle.dn_message.specs.declared.rcode.Rcode.TheVariants.{Refused}
use Rattle.dn_message.specs.Laws.{IsReplyOnce}
use Rattle.dn_message.specs.Pieces.{bytes_of}
use Rattle.dn_message.specs.Reply.{IsReply}
use Rattle.dn_message.specs.Short.{short_bytes, short_of}
use Rattle.dn_message.proofs.CallerLemmas.{short_read}
use Rattle.dn_answer.specs.declared.reply.AnswerValue.{AnswerValue}
use Rattle.dn_answer.specs.Alike.{AreAlike, EqualAnswerAlike, EqualReplyAlike, ReadAlike, blank_reply}
use Rattle.dn_answer.specs.Datagram.{answer_bytes, is_refusal}
use Rattle.dn_answer.specs.Sendable.{AnswersAreSendable, IsSendable, sent}
use Rattle.dn_answer.specs.View.{seen_reply}
use Rattle.dn_answer.proofs.RepliesRead.{servable_sends}
use Rattle.dn_answer.proofs.SentLemmas.{sent_read}

-- messages that are read as replies which are alike
read_alike : IsReplyOnce → (left right : List ℕ) (one other : Reply) → IsReply left one → IsReply right other → blank_reply one ≡ blank_reply other → ReadAlike left right
read_alike once left right one other is also same =
    record {
      left_is = (one, is);
      right_is = (other, also);
      alike = λ first second read_first read_second.
          ap blank_reply (once left first one read_first is) ∙ same ∙ ap blank_reply (once right other second also read_second);
    }

-- the bytes of answers that are alike, to one query
sent_alike : IsReplyOnce → (query : Query) (left right : AnswerValue) → IsName query.name → IsSendable query.name left → IsSendable query.name right → AreAlike left right
    → ReadAlike (bytes_of (sent query left)) (bytes_of (sent query right))
sent_alike once query left right named is also same =
    read_alike once (bytes_of (sent query left)) (bytes_of (sent query right)) (sent query left) (sent query right) (sent_read (bytes_of (sent query left)) query left refl named is)
    (sent_read (bytes_of (sent query right)) query right refl named also) (ap (sent query) same)

module _ (once : IsReplyOnce) (request : List ℕ) (query : Query) (named : IsName query.name) where
  -- a refusal is the same header from each zone
  by_code : (refuses : Bool) (left right : AnswerValue) → IsSendable query.name left → IsSendable query.name right → AreAlike left right
      → ReadAlike (if refuses then short_bytes request Refused else bytes_of (sent query left)) (if refuses then short_bytes request Refused else bytes_of (sent query right))
  by_code true left right is also same =
      let short : List ℕ = short_bytes request Refused in
      read_alike once short short (short_of request Refused) (short_of request Refused) (short_read short request Refused refl) (short_read short request Refused refl) refl
  by_code false left right is also same = sent_alike once query left right named is also same

  -- answers that are alike have one code
  bytes_alike : (left right : AnswerValue) → IsSendable query.name left → IsSendable query.name right → AreAlike left right
      → ReadAlike (answer_bytes request query left) (answer_bytes request query right)
  bytes_alike left right is also same =
      subst (λ (refuses : Bool). ReadAlike (answer_bytes request query left) (if refuses then short_bytes request Refused else bytes_of (sent query right)))
      (ap (λ (value : AnswerValue). is_refusal value.rcode) same) (by_code (is_refusal left.rcode) left right is also same)

pub equal_reply_alike : IsReplyOnce → AnswersAreSendable → EqualAnswerAlike → EqualReplyAlike
equal_reply_alike once sendable alike left right servable also equal request query named =
    let same : AreAlike (seen_reply left query.name query.qtype) (seen_reply right query.name query.qtype) =
    rw (← equal.0) (alike left.table right.table left.apex left.host right.host servable.host also.host equal.1 query.name query.qtype) in
    bytes_alike once request query named (seen_reply left query.name query.qtype) (seen_reply right query.name query.qtype)
    (servable_sends sendable left query servable named) (servable_sends sendable right query also named) same
