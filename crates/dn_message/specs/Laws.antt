-- Laws of messages.
use Rattle.std.specs.Prelude.{◌≡◌, ℕ, List}
use Rattle.dn_message.specs.declared.query.Query.{Query}
use Rattle.dn_message.specs.declared.reply.Reply.{Reply}
use Rattle.dn_message.specs.Query.{IsQuery}
use Rattle.dn_message.specs.Reply.{IsReply}

-- a message is one reply at most
abbrev pub IsReplyOnce : Type 0
IsReplyOnce = (message : List ℕ) (reply other : Reply) → IsReply message reply → IsReply message other → reply ≡ other

-- a message is one query at most
abbrev pub IsQueryOnce : Type 0
IsQueryOnce = (message : List ℕ) (query other : Query) → IsQuery message query → IsQuery message other → query ≡ other
