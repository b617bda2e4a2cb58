use Rattle.dn_answer.proofs.AlikeReplies.{equal_reply_alike}
use Rattle.dn_answer.proofs.alike.equal_replicas_reply_alike.Goals as goal

pub returns : goal.returns
returns c = equal_reply_alike c.replies_are_spelled_once.ensures c.answers_are_sendable.ensures c.equal_replicas_answer_alike.ensures
