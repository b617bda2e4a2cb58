-- What a replica replies to a question.
use Rattle.std.specs.Prelude.{ℕ, slice_get, Option, option_map}
use Rattle.dn_name.specs.Name.{Labels}
use Rattle.dn_answer.specs.declared.reply.AnswerValue.{AnswerValue}
use Rattle.dn_answer.specs.Datagram.{reply_among}
use Rattle.dn_world.specs.State.{WorldState}
use Rattle.dn_world.specs.Datagram.{zones_of}

-- the reply of the replica of a number, none where there is no such replica
unfoldable pub world_reply : WorldState → ℕ → Labels → ℕ → Option AnswerValue
world_reply world at name qtype = option_map (λ replica. reply_among (zones_of world replica.id) name qtype) (slice_get world.replicas at)
