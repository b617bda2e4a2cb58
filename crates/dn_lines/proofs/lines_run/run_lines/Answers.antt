use Rattle.dn_io.specs.declared.status.Status.TheVariants.{Done}
use Rattle.dn_lines.proofs.LineTurns.{run_ended}
use Rattle.dn_lines.proofs.lines_run.run_lines.Goals as goal

pub returns-in-Ok-all_lines-clause-ended : goal.returns-in-Ok-all_lines-clause-ended
returns-in-Ok-all_lines-clause-ended g c =
    run_ended g.C.LineCommand.gives c.args.command.now (g.S.Source.left c.args.source.now) (g.S.Source.left c.all_lines.new.source) (g.K.Sink.written c.args.sink.now) (g.K.Sink.written c.all_lines.new.sink)
    c.in-Ok.lines Done c.in-Ok.ensures c.in-Ok-all_lines.ensures.ended

pub returns-clause-ended : goal.returns-clause-ended
returns-clause-ended g c =
    run_ended g.C.LineCommand.gives c.args.command.now (g.S.Source.left c.args.source.now) (g.S.Source.left c.all_lines.new.source) (g.K.Sink.written c.args.sink.now) (g.K.Sink.written c.all_lines.new.sink)
    c.in-Ok.lines c.in-Err.status c.in-Ok.ensures c.in-Err.ensures.ended
