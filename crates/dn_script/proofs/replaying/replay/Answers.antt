use Rattle.dn_script.proofs.PlayRuns.{opening_valid}
use Rattle.dn_script.proofs.PlaySaid.{replay_ended}
use Rattle.dn_script.proofs.replaying.replay.Goals as goal

pub returns-clause-transcript : goal.returns-clause-transcript
returns-clause-transcript g c =
    replay_ended (g.S.Source.left c.args.source.now) (g.S.Source.left c.run_lines.new.source) (g.K.Sink.written c.args.sink.now) (g.K.Sink.written c.run_lines.new.sink)
    c.opening-script.result c.run_lines.result c.opening-script.ensures c.run_lines.ensures.ended

pub run_lines-requires : goal.run_lines-requires
run_lines-requires g c = rw c.opening-script.ensures opening_valid
