use Rattle.dn_world.specs.Runs.{wrun}
use Rattle.dn_world.proofs.AlikeReplies.{world_alike}
use Rattle.dn_world.proofs.laws.replicas_answer_alike.Goals as goal

pub returns : goal.returns
returns c list proper = world_alike c.equal_replicas_reply_alike.ensures (wrun list) (c.worlds_stay_valid.ensures list proper)
